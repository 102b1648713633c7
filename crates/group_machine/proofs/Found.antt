-- What is found in a slot is there.
use Rattle.std.proofs.Common.{◌≡◌, Some}
use Rattle.log_entry.specs.declared.entry.Entry.{Entry}
use Rattle.group_laws.specs.declared.types.Slot.{Slot}
use Rattle.group_laws.specs.declared.types.Slot.TheVariants.{Empty, Posted, Taken, Done, Failed}
use Rattle.group_machine.specs.Finds.{posted_in}

pub posted_is : (x : Slot) (e : Entry) → posted_in x ≡ Some e → x ≡ Posted e
posted_is Empty e q = absurd (cc q)
posted_is (Posted d) e q = cc q
posted_is Taken e q = absurd (cc q)
posted_is (Done d h) e q = absurd (cc q)
posted_is (Failed d) e q = absurd (cc q)
