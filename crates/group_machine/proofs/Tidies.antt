-- The two rules on the data are the two rules on the group that is shown.
use Rattle.std.proofs.Common.{◌≡◌, ℕ, Bool, true, false, List, [], ◌∷◌, ◌++◌, Option, Some, None, unwrap_or, ◌⊎◌, inl, inr, refl, sym, ap, ◌∙◌, subst}
use Rattle.std.specs.Prelude.{slice_get, slice_set}
use Rattle.std.specs.Global.{Vec}
use Rattle.std.specs.Ordering.{nat_cmp}
use Rattle.std.specs.BTreeMap.{BTreeMap, get}
use Rattle.std.proofs.lemmas.Bool.{cases_eq}
use Rattle.log_entry.specs.declared.entry.EntryName.{EntryName}
use Rattle.store_image.specs.Facts.{In}
use Rattle.group_laws.specs.declared.types.Slot.{Slot}
use Rattle.group_laws.specs.Places.{Place, owner}
use Rattle.group_laws.specs.Updates.{has}
use Rattle.group_laws.specs.State.{Group}
use Rattle.group_laws.specs.Invariant.{IsDead}
use Rattle.group_laws.specs.Tidying.{IsSpent, TellsItself, IsTidy, tidies, Tidied}
use Rattle.group_board.specs.declared.names.Notices.{Notices}
use Rattle.group_machine.specs.declared.state.MemberView.{MemberView}
use Rattle.group_machine.specs.Shows.{pair_cmp, of, last_in, group_at}
use Rattle.group_machine.specs.Deaths.{IsDeadIn, IsSpentIn, MustTell}
use Rattle.group_machine.proofs.Views as views
use Rattle.group_machine.proofs.Own as shown_own
use Rattle.group_machine.proofs.Owners.{leads_same}
use Rattle.group_machine.proofs.NameLists.{in_either, in_front, in_back}

none_of : {X : Type 0} (o : Option X) → ((x : X) → o ≡ Some x → ⊥) → o ≡ None
none_of None no_such = refl
none_of (Some x) no_such = absurd (no_such x refl)

decide_in : (k : ℕ) (xs : List ℕ) → In k xs ⊎ (In k xs → ⊥)
decide_in k [] = inr (λ i. i)
decide_in k (x ∷ xs) = elim (cases_eq k x) [
  | inl e ↦ inl (inl e)
  | inr ne ↦ elim (decide_in k xs) [ inl i ↦ inl (inr i) | inr away ↦ inr (λ i. elim i [ inl e ↦ ne e | inr j ↦ away j ]) ]
]

module _ (p : Place) (o : Option ℕ) (slots : BTreeMap (ℕ × ℕ) Slot) (mail : BTreeMap (ℕ × ℕ) Notices) (vs : List MemberView) (m : ℕ) (v : MemberView) (at : slice_get vs m ≡ Some v)
    (last : BTreeMap ℕ ℕ) (told dead : Vec EntryName) (spent : List ℕ) (names : List EntryName)
    (only : (k : ℕ) → In k spent → IsSpentIn v k) (all : (k x : ℕ) → get nat_cmp v.last k ≡ Some x → IsSpentIn v k → In k spent)
    (must : (k n : ℕ) → (has names k n ≡ true → MustTell p m v k n) × (MustTell p m v k n → has names k n ≡ true))
    (gone : (k : ℕ) → In k spent → get nat_cmp last k ≡ None) (kept : (k : ℕ) → (In k spent → ⊥) → get nat_cmp last k ≡ get nat_cmp v.last k)
    (told_more : told.items ≡ v.told.items ++ names) (dead_more : dead.items ≡ v.dead.items ++ names) where
  abbrev w : Group
  w = group_at p o slots mail vs

  abbrev new : MemberView
  new = record v { last = last; told = told; dead = dead }

  abbrev ws : List MemberView
  ws = slice_set vs m new

  was_own : {X : Type 0} (f : MemberView → X) (d : X) (k : ℕ) → owner p k ≡ m → of f d (slice_get vs (owner p k)) ≡ f v
  was_own f d k own = shown_own.was_own p o slots mail vs m v at f d k own

  is_own : {X : Type 0} (f : MemberView → X) (d : X) (k : ℕ) → owner p k ≡ m → of f d (slice_get ws (owner p k)) ≡ f new
  is_own f d k own = ap (λ (h : ℕ). of f d (slice_get ws h)) own ∙ ap (of f d) (views.set_same vs m v new at)

  is_other : {X : Type 0} (f : MemberView → X) (d : X) (k : ℕ) → (owner p k ≡ m → ⊥) → of f d (slice_get ws (owner p k)) ≡ of f d (slice_get vs (owner p k))
  is_other f d k ne = ap (of f d) (views.set_other vs m v new at (owner p k) ne)

  spent_in : (k : ℕ) → IsSpent w m k → IsSpentIn v k
  spent_in k s =
      let own = s.0 in (
        sym (was_own (λ v. get nat_cmp v.cell k) None k own) ∙ s.1,
        λ u h e. let none = s.2 u in let here = was_own (λ v. get pair_cmp v.present (k, u)) None k own in cc (e, none, here),
        sym (was_own (λ v. get nat_cmp v.pending k) None k own) ∙ s.3,
      )

  in_spent : (k : ℕ) → owner p k ≡ m → IsSpentIn v k → IsSpent w m k
  in_spent k own s = (
    own,
    was_own (λ v. get nat_cmp v.cell k) None k own ∙ s.0,
    λ u. was_own (λ v. get pair_cmp v.present (k, u)) None k own ∙ none_of _ (s.1 u),
    was_own (λ v. get nat_cmp v.pending k) None k own ∙ s.2,
  )

  last_was : (k : ℕ) → owner p k ≡ m → w.last k ≡ last_in v k
  last_was k own = shown_own.last_was p o slots mail vs m v at k own

  dead_in : (k n : ℕ) → owner p k ≡ m → IsDead w k n → IsDeadIn v k n
  dead_in k n own d = shown_own.dead_in p o slots mail vs m v at k n own d

  in_dead : (k n : ℕ) → owner p k ≡ m → IsDeadIn v k n → IsDead w k n
  in_dead k n own d = shown_own.in_dead p o slots mail vs m v at k n own d

  tells_in : (k n : ℕ) → TellsItself w m k n → has names k n ≡ true
  tells_in k n t = (must k n).1 (t.0, sym (was_own (λ v. get pair_cmp v.present (k, n)) None k t.0) ∙ t.1, dead_in k n t.0 t.2)

  in_tells : (k n : ℕ) → has names k n ≡ true → TellsItself w m k n
  in_tells k n t = let x = (must k n).0 t in (x.0, was_own (λ v. get pair_cmp v.present (k, n)) None k x.0 ∙ x.1, in_dead k n x.0 x.2)

  abbrev last' : ℕ → ℕ
  last' k = of (λ v. last_in v k) 0 (slice_get ws (owner p k))

  abbrev told' : ℕ → ℕ → Bool
  told' k n = of (λ v. has v.told.items k n) false (slice_get ws (owner p k))

  abbrev dead' : ℕ → ℕ → ℕ → Bool
  dead' h k n = of (λ v. has v.dead.items k n) false (slice_get ws h)

  zero_at : (k : ℕ) → owner p k ≡ m → In k spent → last' k ≡ 0
  zero_at k own i = is_own (λ v. last_in v k) 0 k own ∙ ap (λ (o : Option ℕ). unwrap_or o 0) (gone k i)

  same_at : (k : ℕ) → owner p k ≡ m → (In k spent → ⊥) → last' k ≡ w.last k
  same_at k own away = is_own (λ v. last_in v k) 0 k own ∙ ap (λ (o : Option ℕ). unwrap_or o 0) (kept k away) ∙ sym (last_was k own)

  away_zero : (k : ℕ) → owner p k ≡ m → IsSpentIn v k → (In k spent → ⊥) → (x : Option ℕ) → get nat_cmp v.last k ≡ x → last' k ≡ 0
  away_zero k own s away None e = same_at k own away ∙ last_was k own ∙ ap (λ (o : Option ℕ). unwrap_or o 0) e
  away_zero k own s away (Some x) e = absurd (away (all k x e s))

  in_told : (k n : ℕ) → owner p k ≡ m → told' k n ≡ has (v.told.items ++ names) k n
  in_told k n own = is_own (λ v. has v.told.items k n) false k own ∙ ap (λ (xs : List EntryName). has xs k n) told_more

  told_was : (k n : ℕ) → owner p k ≡ m → w.told k n ≡ has v.told.items k n
  told_was k n own = was_own (λ v. has v.told.items k n) false k own

  in_dead_list : (k n : ℕ) → dead' m k n ≡ has (v.dead.items ++ names) k n
  in_dead_list k n = ap (of (λ (v : MemberView). has v.dead.items k n) false) (views.set_same vs m v new at) ∙ ap (λ (xs : List EntryName). has xs k n) dead_more

  dead_was : (k n : ℕ) → w.dead m k n ≡ has v.dead.items k n
  dead_was k n = ap (of (λ (v : MemberView). has v.dead.items k n) false) at

  is_tidy : IsTidy w m last' told' dead'
  is_tidy = record {
    forgets = λ k s. elim (decide_in k spent) [
      | inl i ↦ zero_at k s.0 i
      | inr away ↦ away_zero k s.0 (spent_in k s) away (get nat_cmp v.last k) refl
    ];
    keeps = λ k. elim (cases_eq (owner p k) m) [
      | inl own ↦ elim (decide_in k spent) [
        | inl i ↦ inl (in_spent k own (only k i), zero_at k own i)
        | inr away ↦ inr (same_at k own away)
      ]
      | inr ne ↦ inr (is_other (λ v. last_in v k) 0 k ne)
    ];
    tells = λ k n. elim (cases_eq (owner p k) m) [
      | inl own ↦ (
        λ t. elim (in_either v.told.items names k n (sym (in_told k n own) ∙ t)) [ inl old ↦ inl (told_was k n own ∙ old) | inr fresh ↦ inr (in_tells k n fresh) ],
        λ q. in_told k n own ∙ elim q [ inl old ↦ in_front v.told.items names k n (sym (told_was k n own) ∙ old) | inr itself ↦ in_back v.told.items names k n (tells_in k n itself) ],
      )
      | inr ne ↦ let same = is_other (λ v. has v.told.items k n) false k ne in (λ t. inl (sym same ∙ t), λ q. elim q [ inl old ↦ same ∙ old | inr itself ↦ absurd (ne itself.0) ])
    ];
    learns = λ h k n. elim (cases_eq h m) [
      | inl own ↦ subst (λ (h : ℕ). (dead' h k n ≡ true → (w.dead h k n ≡ true) ⊎ ((h ≡ m) × TellsItself w m k n)) × ((w.dead h k n ≡ true) ⊎ ((h ≡ m) × TellsItself w m k n) → dead' h k n ≡ true)) (sym own) (
        λ t. elim (in_either v.dead.items names k n (sym (in_dead_list k n) ∙ t)) [ inl old ↦ inl (dead_was k n ∙ old) | inr fresh ↦ inr (refl, in_tells k n fresh) ],
        λ q. in_dead_list k n ∙ elim q [ inl old ↦ in_front v.dead.items names k n (sym (dead_was k n) ∙ old) | inr itself ↦ in_back v.dead.items names k n (tells_in k n itself.1) ],
      )
      | inr ne ↦ let same = ap (of (λ (v : MemberView). has v.dead.items k n) false) (views.set_other vs m v new at h ne) in (λ t. inl (sym same ∙ t), λ q. elim q [ inl old ↦ same ∙ old | inr itself ↦ absurd (ne itself.0) ])
    ];
  }

  shown : group_at p o slots mail ws ≡ tidies w last' told' dead'
  shown = leads_same p o mail vs m v at slots v.broken v.looked last v.cell v.pending v.present told dead v.blocks v.posted ∙ λ i. record (tidies w last' told' dead') {
    broken = λ h. views.kept_field vs m v new at (λ v. v.broken) false refl h i;
    looked = λ h. views.kept_field vs m v new at (λ v. v.looked.items) [] refl h i;
    cell = λ k. views.kept_field vs m v new at (λ v. get nat_cmp v.cell k) None refl (owner p k) i;
    pending = λ k. views.kept_field vs m v new at (λ v. get nat_cmp v.pending k) None refl (owner p k) i;
    present = λ k n. views.kept_field vs m v new at (λ v. get pair_cmp v.present (k, n)) None refl (owner p k) i;
    blocks = λ h q. views.kept_field vs m v new at (λ v. get nat_cmp v.blocks q) None refl h i;
    posted = λ h. views.kept_field vs m v new at (λ v. v.posted.items) [] refl h i;
  }

  pub tidied : Tidied w m (group_at p o slots mail ws)
  tidied = (last', told', dead', is_tidy, shown)
