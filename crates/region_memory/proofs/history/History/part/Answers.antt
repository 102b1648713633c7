use Rattle.std.proofs.Common.{◌-◌, arith}
use Rattle.std.proofs.lemmas.Grind.{common_steps}
use Rattle.region_memory.proofs.Parts.{part_matches, nothing_yet}
use Rattle.region_memory.proofs.Wide.{wide_part}
use Rattle.region_memory.proofs.history.History.part.Goals as goal

pub invariant_of-result-clause-matches : goal.invariant_of-result-clause-matches
invariant_of-result-clause-matches c =
    part_matches c.args.self.now c.in_ok-journal.journal c.args.from c.args.end c.in_ok-words.words.items c.in_ok-start.start.items c.in_ok-journal.ensures c.requires.low c.requires.high
    (grind (arith, common_steps)) (λ k lt. grind (arith, common_steps)) (λ k lt. grind (arith, common_steps))

pub invariant_of-result-clause-inside : goal.invariant_of-result-clause-inside
invariant_of-result-clause-inside c = λ w d out. nothing_yet c.in_ok-journal.journal w d c.in_ok-journal.ensures.base

pub invariant_of-result-clause-wide : goal.invariant_of-result-clause-wide
invariant_of-result-clause-wide c =
    let h = c.args.self.now in
    wide_part h.words.items c.in_ok-words.words.items (c.args.from - h.first) (grind (arith, common_steps)) (λ k lt. grind (arith, common_steps)) h.wide
