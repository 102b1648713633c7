-- The list of winners: each key is found in it, and each of them wins and can be spelled.
use Rattle.std.proofs.Common.{◌≡◌, inl, inr, ℕ, ◌==◌, List, [], ◌∷◌, ◌++◌, true, false, cond, Option, Some, None, refl, sym, ◌∙◌, ap, subst}
use Rattle.std.specs.Option.{option_to_list}
use Rattle.std.proofs.lemmas.Bool.{eqb-true, eqb-false}
use Rattle.log_entry.specs.Spelling.{HasSpelling}
use Rattle.store_image.specs.declared.types.PlacedEntry.{PlacedEntry}
use Rattle.store_image.specs.Winners.{winner_in, keys_of}
use Rattle.store_image.specs.Facts.{In}
use Rattle.store_image.proofs.Clients.{winner_is, in_front, in_back, in_either, winner_key}
use Rattle.recover.specs.Winning.{winners_of, won_in, AreSpelled}
use Rattle.recover.proofs.JudgeLaws.{winners_at}

module _ (es : List PlacedEntry) where
  -- a key has its winner
  won_here : (k j : ℕ) (js : List ℕ) → ((In k (j ∷ js) → ⊥) → winner_in k es ≡ None) → (((In k js → ⊥) → winner_in k es ≡ None) → won_in k (winners_at es js) ≡ winner_in k es)
      → (o : Option PlacedEntry) → winner_in j es ≡ o → won_in k (option_to_list o ++ winners_at es js) ≡ winner_in k es
  won_here k j js none again None won = again not_here where
    not_here : (In k js → ⊥) → winner_in k es ≡ None
    not_here h = elim (k == j) as (λ c. (k == j) ≡ c → winner_in k es ≡ None) [
      | true ↦ λ q. ap (λ n. winner_in n es) (eqb-true k j q) ∙ won
      | false ↦ λ q. none (λ i. elim i [ inl p ↦ eqb-false k j q p | inr p ↦ h p ])
    ] refl
  won_here k j js none again (Some x) won =
      let key : x.entry.key ≡ j = (winner_is j es x won).1 in
      elim (x.entry.key == k) as (λ c. (x.entry.key == k) ≡ c → cond c (Some x) (won_in k (winners_at es js)) ≡ winner_in k es) [
        | true ↦ λ q. sym (ap (λ n. winner_in n es) (sym (eqb-true x.entry.key k q) ∙ key) ∙ won)
        | false ↦ λ q. again (λ h. none (λ i. elim i [ inl p ↦ eqb-false x.entry.key k q (key ∙ sym p) | inr p ↦ h p ]))
      ] refl

  won_at : (k : ℕ) (ks : List ℕ) → ((In k ks → ⊥) → winner_in k es ≡ None) → won_in k (winners_at es ks) ≡ winner_in k es
  won_at k [] none = sym (none (λ h. h))
  won_at k (j ∷ js) none = won_here k j js none (won_at k js) (winner_in j es) refl

  pub won_each : (k : ℕ) → won_in k (winners_of es) ≡ winner_in k es
  won_each k = won_at k (keys_of es) (λ h. no_winner (winner_in k es) refl h) where
    no_winner : (o : Option PlacedEntry) → winner_in k es ≡ o → (In k (keys_of es) → ⊥) → winner_in k es ≡ None
    no_winner None e h = e
    no_winner (Some x) e h = absurd (h (winner_key k es x e))

  -- each of them wins its key
  wins_first : (k : ℕ) (x : PlacedEntry) (o : Option PlacedEntry) → winner_in k es ≡ o → In x (option_to_list o) → winner_in x.entry.key es ≡ Some x
  wins_first k x None won h = absurd h
  wins_first k x (Some y) won (inl p) = ap (λ (z : PlacedEntry). winner_in z.entry.key es) p ∙ ap (λ j. winner_in j es) (winner_is k es y won).1 ∙ won ∙ ap Some (sym p)
  wins_first k x (Some y) won (inr h) = absurd h

  wins_at : (ks : List ℕ) (x : PlacedEntry) → In x (winners_at es ks) → winner_in x.entry.key es ≡ Some x
  wins_at [] x h = absurd h
  wins_at (k ∷ ks) x h = elim (in_either x (option_to_list (winner_in k es)) (winners_at es ks) h) [
    | inl i ↦ wins_first k x (winner_in k es) refl i
    | inr i ↦ wins_at ks x i
  ]

  pub winner_wins : (x : PlacedEntry) → In x (winners_of es) → winner_in x.entry.key es ≡ Some x
  winner_wins x h = wins_at (keys_of es) x h

  -- and each that wins one is among them
  among_at : (k : ℕ) (x : PlacedEntry) (ks : List ℕ) → winner_in k es ≡ Some x → In k ks → In x (winners_at es ks)
  among_at k x [] won h = absurd h
  among_at k x (j ∷ js) won (inl p) = in_front x (option_to_list (winner_in j es)) (winners_at es js) (subst (λ (o : Option PlacedEntry). In x (option_to_list o)) (sym (ap (λ n. winner_in n es) (sym p) ∙ won)) (inl refl))
  among_at k x (j ∷ js) won (inr h) = in_back x (option_to_list (winner_in j es)) (winners_at es js) (among_at k x js won h)

  pub among_winners : (k : ℕ) (x : PlacedEntry) → winner_in k es ≡ Some x → In x (winners_of es)
  among_winners k x won = among_at k x (keys_of es) won (winner_key k es x won)

-- an entry of such a list can be spelled
pub spelled_in : (xs : List PlacedEntry) (x : PlacedEntry) → AreSpelled xs → In x xs → HasSpelling x.entry
spelled_in [] x all h = absurd h
spelled_in (y ∷ ys) x all (inl p) = subst (λ (z : PlacedEntry). HasSpelling z.entry) (sym p) all.0
spelled_in (y ∷ ys) x all (inr h) = spelled_in ys x all.1 h
