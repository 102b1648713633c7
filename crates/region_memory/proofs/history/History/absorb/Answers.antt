use Rattle.std.proofs.Common.{◌≡◌, ◌-◌, arith, rules}
use Rattle.region_memory.proofs.Parts.{nothing_yet}
use Rattle.region_memory.proofs.Wide.{wide_over}
use Rattle.region_memory.proofs.history.History.absorb.Goals as goal

pub invariant_of-self-clause-inside : goal.invariant_of-self-clause-inside
invariant_of-self-clause-inside c = λ w d out. nothing_yet c.append.new.self w d c.append.ensures.base

pub invariant_of-self-clause-wide : goal.invariant_of-self-clause-wide
invariant_of-self-clause-wide c =
    let h = c.args.self.now in
    let p = c.args.piece.now in
    let same : c.deref.result.now ≡ p.words.items = c.deref.ensures.value in
    let low = c.requires.low in
    let high = c.requires.high in
    wide_over h.words.items p.words.items c.overwrite.new.words.items (p.first - h.first) (omega arith) c.overwrite.ensures.same_length
    (search (rules, c.overwrite.ensures.inner)) (search (rules, c.overwrite.ensures.outer)) h.wide p.wide
