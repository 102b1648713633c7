use Rattle.std.proofs.Common.{arith}
use Rattle.core_index.proofs.IndexLaws.{index_step}
use Rattle.core_index.proofs.index.CoreIndex.gone.Goals as goal

pub give_back-requires : goal.give_back-requires
give_back-requires c =
    let mortal = c.gone_in-gone.ensures.mortal in
    let spare = c.note_dead.ensures.spare in
    let room = c.self.invariant.spare in
    omega (arith, mortal, spare, room)

pub invariant_of-self : goal.invariant_of-self
invariant_of-self c =
    let g = c.gone_in-gone.ensures in
    let n = c.note_dead.ensures in
    let b = c.give_back.ensures in
    let mortal = g.mortal in
    let spare = n.spare in
    let less = b.spare in
    let room = c.self.invariant.spare in
    index_step c.self.inside.slots.entries c.gone_in-gone.new.slots.entries c.self.inside.start c.gone_in-gone.new.start c.self.inside.notices c.give_back.new.self c.args.name.key c.gone_in-gone.result.dead c.self.invariant g.gone.others g.dead (λ v h died. b.kept h _ (n.added v h died)) (λ h m noted. b.kept h m (n.kept h m noted)) g.ahead (omega (arith, mortal, spare, less, room))
