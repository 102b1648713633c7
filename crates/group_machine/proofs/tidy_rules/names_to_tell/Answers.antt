use Rattle.std.proofs.Common.{◌≡◌, ℕ, true, Some, refl, sym, ap, ◌∙◌, inl, inr}
use Rattle.std.specs.BTreeMap.{get, is_at}
use Rattle.std.specs.Map.Iter.{deref_pair}
use Rattle.std.proofs.lemmas.Map.Views.{All-turn}
use Rattle.group_laws.specs.Updates.{has}
use Rattle.group_machine.specs.Shows.{pair_cmp, place_of}
use Rattle.group_machine.specs.Deaths.{MustTell}
use Rattle.group_machine.proofs.Entries.{pair_key, met}
use Rattle.group_machine.proofs.tidy_rules.names_to_tell.Goals as goal

same_home : (a b : ℕ) → Some a ≡ Some b → a ≡ b
same_home a b e = cc e

pub loop-name-preserved : goal.loop-name-preserved
loop-name-preserved c =
    let given = c.into_iter-name-iterator.ensures.into_iter_gives in
    let p = place_of c.args.state.now in
    let m = c.args.member in
    let v = c.args.view.now in
    let x = c.in-Some.name.now in
    let home = c.in-Some.home.now in
    let found = All-turn deref_pair (λ (e : (ℕ × ℕ) × ℕ). get pair_cmp v.present e.0 ≡ Some e.1) _ _ _ _ _ _ _ given.6 given.0 c.loop-name.yielded_by c.in-Some.is c.next.ensures.steps in
    let added = c.in_ok-add_untold.ensures in
    record {
      only = λ k n t. elim ((added k n).0 t) [
        | inl j ↦ c.loop-name.invariant.only k n j
        | inr j ↦ (j.2, (λ i. get pair_cmp v.present (j.0 i, j.1 i)) ∙ found ∙ ap Some j.3, j.4)
      ];
      all = λ q h at. elim (c.loop-name.invariant.all q h at) [
        | inl a ↦ inl (λ must. (added q.0 q.1).1 (inl (a must)))
        | inr l ↦ met (λ (q : ℕ × ℕ). is_at (pair_cmp q)) pair_key (λ (q : ℕ × ℕ) (h : ℕ). MustTell p m v q.0 q.1 → has c.add_untold.new.names.items q.0 q.1 ≡ true) x home c.next.new.self c.loop-name.name-iterator q h c.in-Some.ensures.steps
            (λ must. (added x.0 x.1).1 (inr (refl, refl, must.0, same_home home m (sym found ∙ must.1), must.2))) l
      ];
    }
