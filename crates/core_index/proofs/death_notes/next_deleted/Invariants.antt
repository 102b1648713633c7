use Rattle.std.proofs.Common.{◌≡◌}
use Rattle.core_index.specs.Starts.{started}
use Rattle.core_index.specs.Index.{IsIndex, to_ask}
use Rattle.core_index.proofs.death_notes.next_deleted.Given as goal

abbrev pub invariant-loop-tombstone : goal.invariant-loop-tombstone
invariant-loop-tombstone l = record {
  same : l.slots.entries ≡ l.initial.slots.entries;
  places : started l.start ≡ started l.initial.start;
  index : IsIndex l.slots.entries l.start l.notices;
}

abbrev pub decreases-loop-tombstone : goal.decreases-loop-tombstone
decreases-loop-tombstone l = to_ask l.start l.home
