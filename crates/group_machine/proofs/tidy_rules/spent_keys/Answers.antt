use Rattle.std.proofs.Common.{ℕ, refl, inl, inr}
use Rattle.std.specs.Ordering.{nat_cmp}
use Rattle.std.specs.BTreeMap.{is_at}
use Rattle.store_image.specs.Facts.{In}
use Rattle.group_machine.specs.Deaths.{IsSpentIn}
use Rattle.group_machine.proofs.Entries.{number_key, met}
use Rattle.group_machine.proofs.tidy_rules.spent_keys.Goals as goal

pub loop-key-preserved : goal.loop-key-preserved
loop-key-preserved c =
    let v = c.args.view.now in
    let key = c.in-Some.key.now in
    let added = c.in_ok-add_spent.ensures in
    record {
      only = λ k i. elim ((added k).0 i) [ inl j ↦ c.loop-key.invariant.only k j | inr j ↦ j.1 ];
      all = λ k x at. elim (c.loop-key.invariant.all k x at) [
        | inl a ↦ inl (λ s. (added k).1 (inl (a s)))
        | inr l ↦ met (λ (q : ℕ). is_at (nat_cmp q)) number_key (λ (q x : ℕ). IsSpentIn v q → In q c.add_spent.new.keys.items) key c.in-Some.field-0-1.now c.next.new.self c.loop-key.key-iterator k x c.in-Some.ensures.steps (λ s. (added key).1 (inr (refl, s))) l
      ];
    }
