use Rattle.std.proofs.Common.{◌≡◌, ℕ, Some, refl, inl, inr, subst}
use Rattle.std.specs.BTreeMap.{get, is_at}
use Rattle.std.specs.Map.Iter.{deref_pair}
use Rattle.std.proofs.lemmas.Map.Views.{All-turn}
use Rattle.group_machine.specs.Shows.{pair_cmp}
use Rattle.group_machine.proofs.Entries.{pair_key, met, ended}
use Rattle.group_machine.proofs.tidy_rules.stands_alone.Goals as goal

pub returns-then-not-is_apart : goal.returns-then-not-is_apart
returns-then-not-is_apart c =
    let given = c.into_iter-name-iterator.ensures.into_iter_gives in
    let m = c.args.present.now in
    let x = c.in-Some.name.now in
    let h = c.in-Some.field-0-1.now in
    let found = All-turn deref_pair (λ (e : (ℕ × ℕ) × ℕ). get pair_cmp m e.0 ≡ Some e.1) _ _ _ _ _ _ _ given.6 given.0 c.loop-name.yielded_by c.in-Some.is c.next.ensures.steps in (
      λ t. absurd (cc t),
      λ alone. absurd (
          let ok = c.is_apart.ensures.1 (λ k. alone x.1 h (subst (λ (k : ℕ). get pair_cmp m (k, x.1) ≡ Some h) k found)) in
          let f = c.if-not-is_apart.true in cc (ok, f)),
    )

pub loop-name-preserved : goal.loop-name-preserved
loop-name-preserved c = λ q h at. elim (c.loop-name.invariant q h at) [
  | inl a ↦ inl a
  | inr l ↦ met (λ (q : ℕ × ℕ). is_at (pair_cmp q)) pair_key (λ (q : ℕ × ℕ) (h : ℕ). q.0 ≡ c.args.key → q.1 ≡ c.args.version) c.in-Some.name.now c.in-Some.field-0-1.now c.next.new.self c.loop-name.name-iterator q h c.in-Some.ensures.steps (c.is_apart.ensures.0 c.if-not-is_apart.false) l
]

pub returns : goal.returns
returns c = (
  λ _ u h at. elim (c.loop-name.invariant (c.args.key, u) h at) [
    | inl a ↦ a refl
    | inr l ↦ ended (is_at (pair_cmp (c.args.key, u))) c.loop-name.name-iterator h c.in-None.ensures.steps.0 l
  ],
  λ _. refl,
)
