use Rattle.std.proofs.Common.{◌≡◌, ℕ, List, ◌-◌, ◌+◌, ◌<◌, get_or, length, drop, sym, ◌∙◌, ap, arith, rules}
use Rattle.std.specs.BTreeMap.{insert_entry}
use Rattle.std.specs.Ordering.{nat_cmp}
use Rattle.core_index.specs.declared.types.Standee.{Standee}
use Rattle.core_index.specs.Records.{homes_of}
use Rattle.core_index.proofs.MarkLaws.{homes_more}
use Rattle.core_index.proofs.entry_list.homes_of.Goals as goal

pub loop-left-preserved : goal.loop-left-preserved
loop-left-preserved c =
    let ss = c.args.standees.now in
    let left = c.loop-left.left in
    let d : Standee = record { version = 0; home = 0 } in
    let some = c.loop-left-test.true in
    let within = c.loop-left.invariant.within in
    let lt : left - 1 < length ss = omega (arith, some, within) in
    let next : left ≡ left - 1 + 1 = omega (arith, some) in
    record {
      within = omega (arith, within);
      gathered = c.in_ok-insert.ensures.entries
          ∙ ap (λ (es : List (ℕ × ℕ)). insert_entry nat_cmp es (get_or ss (left - 1) d).version (get_or ss (left - 1) d).home) (c.loop-left.invariant.gathered ∙ ap (λ (n : ℕ). homes_of (drop n ss)) next)
          ∙ sym (homes_more ss (left - 1) d lt);
      ordered = search rules;
    }
