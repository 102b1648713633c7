use Rattle.std.proofs.Common.{◌≡◌, ℕ, List, Option, ap, subst, arith}
use Rattle.core_index.specs.Records.{KeyRecord, Awaits}
use Rattle.core_index.specs.Slots.{Place}
use Rattle.core_index.specs.Index.{room_at, all_places}
use Rattle.core_index.proofs.PlaceLaws.{room_both}
use Rattle.core_index.proofs.IndexLaws.{index_same}
use Rattle.core_index.proofs.index.CoreIndex.give_back.Goals as goal

pub give_back_in-requires : goal.give_back_in-requires
give_back_in-requires c =
    let es = c.self.inside.slots.entries in
    let k = c.args.key in
    let same : room_at (all_places es c.self.inside.start) k ≡ room_at c.args.self.now k = ap (λ (xs : List (ℕ × Place)). room_at xs k) c.self.view_is in
    let both = room_both es c.self.inside.start k in
    let room = c.room.ensures in
    let some = c.if-room-gt0.true in
    omega (arith, same, both, room, some)

pub give_back-requires : goal.give_back-requires
give_back-requires c =
    let spare = c.self.invariant.spare in
    let less = c.give_back_in.ensures.mortal in
    omega (arith, spare, less)

pub invariant_of-self : goal.invariant_of-self
invariant_of-self c =
    let less = c.give_back_in.ensures.less in
    let spare = c.self.invariant.spare in
    let mortal = c.give_back_in.ensures.mortal in
    let one = c.give_back.ensures.spare in
    index_same c.self.inside.slots.entries c.give_back_in.new.slots.entries c.self.inside.start c.give_back_in.new.start c.self.inside.notices c.give_back.new.self c.args.key c.self.invariant
    (λ j ne. less.records j) (λ v h waits. subst (λ (o : Option KeyRecord). Awaits o h v) (less.records c.args.key) waits)
    c.give_back.ensures.kept c.give_back_in.ensures.ahead (omega (arith, spare, mortal, one))
