use Rattle.std.proofs.Common.{◌≡◌, ◌<◌, length, arith, sym, ap, ◌∙◌, true, false}
use Rattle.std.specs.Prelude.{bytes_eq, codes}
use Rattle.std.proofs.lemmas.Grind.{common_steps}
use Rattle.run_audit.proofs.Passing.{passed_none, passed_line, passed_all, stop_nothing, stop_replies}
use Rattle.run_audit.proofs.parting.part_at_replies.Goals as goal

pub loop-first-init : goal.loop-first-init
loop-first-init c = record { few = omega arith; passed = passed_none c.args.bytes.now }

pub loop-first-preserved : goal.loop-first-preserved
loop-first-preserved c =
    let first = c.first_line-first.result in
    let some : 0 < length c.loop-first.rest.now = omega arith in
    let other : bytes_eq first.text.now (codes "replies") ≡ false = ap (λ l. bytes_eq first.text.now l) (sym c.as_slice.ensures) ∙ sym c.eq.ensures ∙ c.if-eq.false in
    record {
      few = omega arith;
      passed = passed_line c.args.bytes.now c.loop-first.rest.now c.loop-first.lines first c.loop-first.invariant.passed some c.first_line-first.ensures.parted other;
    }

pub returns-then-eq : goal.returns-then-eq
returns-then-eq c =
    let first = c.first_line-first.result in
    let here : bytes_eq first.text.now (codes "replies") ≡ true = ap (λ l. bytes_eq first.text.now l) (sym c.as_slice.ensures) ∙ sym c.eq.ensures ∙ c.if-eq.true in
    passed_all c.args.bytes.now c.loop-first.rest.now c.loop-first.lines c.parts_before.result c.loop-first.invariant.passed
    (stop_replies c.loop-first.rest.now first c.first_line-first.ensures.parted here) c.parts_before.ensures.trace c.parts_before.ensures.rest c.parts_before.ensures.lines

pub returns : goal.returns
returns c =
    let none : length c.loop-first.rest.now ≡ 0 = grind (arith, common_steps) in
    passed_all c.args.bytes.now c.loop-first.rest.now c.loop-first.lines c.parts_before-2.result c.loop-first.invariant.passed
    (stop_nothing c.loop-first.rest.now none) c.parts_before-2.ensures.trace c.parts_before-2.ensures.rest c.parts_before-2.ensures.lines
