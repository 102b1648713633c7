use Rattle.std.proofs.Common.{◌≡◌, ℕ, List, ◌∷◌, Some, refl, sym, ◌∙◌, inl, inr, ◌⊎◌, length, subst}
use Rattle.std.proofs.lemmas.Bool.{eqb-true}
use Rattle.std.specs.Cmp.{unsigned_tied}
use Rattle.std.specs.Ordering.{nat_cmp}
use Rattle.std.specs.BTreeMap.{get, is_at}
use Rattle.std.specs.Map.{lookup}
use Rattle.std.specs.Map.Iter.{deref_pair}
use Rattle.std.proofs.lemmas.Map.Views.{All-turn}
use Rattle.group_laws.specs.declared.types.Block.{Block}
use Rattle.group_laws.specs.Places.{Apart, units}
use Rattle.group_laws.proofs.Clients.{cond_cases}
use Rattle.group_machine.proofs.post_step.is_clear.Goals as goal

pub returns-then-not-is_apart : goal.returns-then-not-is_apart
returns-then-not-is_apart c =
    let given = c.into_iter-pointer-iterator.ensures.into_iter_gives in
    let found = All-turn deref_pair (λ (e : ℕ × Block). get nat_cmp c.args.blocks.now e.0 ≡ Some e.1) _ _ _ _ _ _ _ given.6 given.0 c.loop-pointer.yielded_by c.in-Some.is c.next.ensures.steps in
    (λ t. absurd (cc t), λ clear. absurd (let apart = clear c.in-Some.pointer.now c.in-Some.block.now found in let says = c.is_apart.ensures.1 (rw (c.units_of.ensures, c.bytes.ensures) apart) in let untrue = c.if-not-is_apart.true in cc (says, untrue)))

here : (first count p q : ℕ) (b d : Block) (rest : List (ℕ × Block)) (it : List (ℕ × Block)) → it ≡ (p, d) ∷ rest → Apart first count p (units (length d.bytes)) → lookup (is_at (nat_cmp q)) it ≡ Some b → Apart first count q (units (length b.bytes)) ⊎ (lookup (is_at (nat_cmp q)) rest ≡ Some b)
here first count p q b d rest it e far l =
    elim (cond_cases (λ u. u ≡ Some b) (is_at (nat_cmp q) p) (Some d) (lookup (is_at (nat_cmp q)) rest) (subst (λ (xs : List (ℕ × Block)). lookup (is_at (nat_cmp q)) xs ≡ Some b) e l)) [
      | inl i ↦ let at : q ≡ p = eqb-true q p (sym (unsigned_tied q p) ∙ i.0) in let same : d ≡ b = cc (i.1) in inl (rw (at, ← same) far)
      | inr i ↦ inr i.1
    ]

pub loop-pointer-preserved : goal.loop-pointer-preserved
loop-pointer-preserved c = λ q b at. elim (c.loop-pointer.invariant q b at) [
  | inl a ↦ inl a
  | inr l ↦ here c.args.first c.args.count c.in-Some.pointer.now q b c.in-Some.block.now c.next.new.self c.loop-pointer.pointer-iterator c.in-Some.ensures.steps (rw (c.units_of.ensures, c.bytes.ensures) at (c.is_apart.ensures.0 c.if-not-is_apart.false)) l
]

pub returns : goal.returns
returns c = (λ _ q b at. elim (c.loop-pointer.invariant q b at) [ inl a ↦ a | inr l ↦ absurd (let none = subst (λ (xs : List (ℕ × Block)). lookup (is_at (nat_cmp q)) xs ≡ Some b) c.in-None.ensures.steps.0 l in cc none) ], λ _. refl)
