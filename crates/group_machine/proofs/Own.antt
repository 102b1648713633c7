-- What the group that is shown has of a member's own keys is what its view has.
use Rattle.std.proofs.Common.{◌≡◌, ℕ, ◌<◌, false, List, Option, Some, None, inl, inr, sym, ap, ◌∙◌, subst}
use Rattle.std.specs.Prelude.{slice_get}
use Rattle.std.specs.Ordering.{nat_cmp}
use Rattle.std.specs.BTreeMap.{BTreeMap, get}
use Rattle.group_laws.specs.declared.types.Slot.{Slot}
use Rattle.group_laws.specs.Places.{Place, owner}
use Rattle.group_laws.specs.Updates.{has}
use Rattle.group_laws.specs.State.{Group}
use Rattle.group_laws.specs.Invariant.{IsDead}
use Rattle.group_board.specs.declared.names.Notices.{Notices}
use Rattle.group_machine.specs.declared.state.MemberView.{MemberView}
use Rattle.group_machine.specs.Shows.{pair_cmp, of, last_in, group_at}
use Rattle.group_machine.specs.Deaths.{IsDeadIn, MayTell}

module _ (p : Place) (o : Option ℕ) (slots : BTreeMap (ℕ × ℕ) Slot) (mail : BTreeMap (ℕ × ℕ) Notices) (vs : List MemberView) (m : ℕ) (v : MemberView) (at : slice_get vs m ≡ Some v) where
  abbrev w : Group
  w = group_at p o slots mail vs

  pub was_own : {X : Type 0} (f : MemberView → X) (d : X) (k : ℕ) → owner p k ≡ m → of f d (slice_get vs (owner p k)) ≡ f v
  was_own f d k own = ap (λ (h : ℕ). of f d (slice_get vs h)) own ∙ ap (of f d) at

  pub last_was : (k : ℕ) → owner p k ≡ m → w.last k ≡ last_in v k
  last_was k own = was_own (λ v. last_in v k) 0 k own

  pub dead_in : (k n : ℕ) → owner p k ≡ m → IsDead w k n → IsDeadIn v k n
  dead_in k n own (inl less) = inl (subst (λ (l : ℕ). n < l) (last_was k own) less)
  dead_in k n own (inr d) = inr (d.0 ∙ last_was k own, sym (was_own (λ v. get nat_cmp v.cell k) None k own) ∙ d.1, λ u h e. d.2 u h (was_own (λ v. get pair_cmp v.present (k, u)) None k own ∙ e))

  pub in_dead : (k n : ℕ) → owner p k ≡ m → IsDeadIn v k n → IsDead w k n
  in_dead k n own (inl less) = inl (subst (λ (l : ℕ). n < l) (sym (last_was k own)) less)
  in_dead k n own (inr d) = inr (d.0 ∙ sym (last_was k own), was_own (λ v. get nat_cmp v.cell k) None k own ∙ d.1, λ u h e. d.2 u h (sym (was_own (λ v. get pair_cmp v.present (k, u)) None k own) ∙ e))

  pub tell_in : (to k n : ℕ) → MayTell p m v to k n → (owner p k ≡ m) × IsDead w k n × (w.present k n ≡ Some to) × (w.told k n ≡ false)
  tell_in to k n t = (t.0, in_dead k n t.0 t.1, was_own (λ v. get pair_cmp v.present (k, n)) None k t.0 ∙ t.2, was_own (λ v. has v.told.items k n) false k t.0 ∙ t.3)

  pub in_tell : (to k n : ℕ) → (owner p k ≡ m) × IsDead w k n × (w.present k n ≡ Some to) × (w.told k n ≡ false) → MayTell p m v to k n
  in_tell to k n t = (t.0, dead_in k n t.0 t.1, sym (was_own (λ v. get pair_cmp v.present (k, n)) None k t.0) ∙ t.2, sym (was_own (λ v. has v.told.items k n) false k t.0) ∙ t.3)
