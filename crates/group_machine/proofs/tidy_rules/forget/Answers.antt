use Rattle.std.proofs.Common.{◌≡◌, ℕ, ◌<◌, None, Option, length, get_or, arith, refl, ◌∙◌, inl, inr}
use Rattle.std.specs.Ordering.{nat_cmp}
use Rattle.std.specs.BTreeMap.{get}
use Rattle.group_laws.proofs.Clients.{if_into}
use Rattle.group_machine.proofs.Lists.{In-take_more, In-more, In-here}
use Rattle.group_machine.proofs.Pairs.{number_put}
use Rattle.group_machine.proofs.tidy_rules.forget.Goals as goal

pub loop-key-preserved : goal.loop-key-preserved
loop-key-preserved c =
    let keys = c.args.keys.now in
    let i = c.loop-key.key-index in
    let key = get_or keys i 0 in
    let old = c.loop-key.last in
    let within : i < length keys = omega arith in
    let new : (k : ℕ) → get nat_cmp c.remove.new.self k ≡ _ = number_put (λ (o : Option ℕ). o) old c.remove.new.self key None c.remove.ensures.updates in
    record {
      gone = λ k j. new k ∙ if_into (λ (o : Option ℕ). o ≡ None) key None (get nat_cmp old k) k (λ _. refl) (λ ne. elim (In-take_more k keys i 0 within j) [ inl e ↦ absurd (ne e) | inr before ↦ c.loop-key.invariant.gone k before ]);
      kept = λ k away. new k ∙ if_into (λ (o : Option ℕ). o ≡ get nat_cmp c.args.last.now k) key None (get nat_cmp old k) k (λ e. absurd (away (rw e (In-here keys i 0 within)))) (λ ne. c.loop-key.invariant.kept k (λ before. away (In-more k keys i 0 within before)));
    }
