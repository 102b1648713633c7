-- The winners of entries in the order of their names, taken from the last on.
use Rattle.std.proofs.Common.{◌≡◌, inl, inr, ℕ, ◌<◌, ◌≤◌, List, [], ◌∷◌, ◌++◌, refl, sym, ◌∙◌, ap, subst, arith, ◌==◌, ◌&&◌, Bool, true, false, cond, Option, Some, None, ltb}
use Rattle.std.specs.Option.{option_to_list}
use Rattle.std.specs.List.{flat_map}
use Rattle.std.proofs.lemmas.Bool.{eqb-true, eqb-false, eq-eqb, ne_eqb, le-ltb, lt-ltb}
use Rattle.store_image.specs.declared.types.PlacedEntry.{PlacedEntry}
use Rattle.store_image.specs.Winners.{better, winner_in, with_key, keys_of}
use Rattle.store_image.specs.Listing.{IsRising}
use Rattle.store_image.specs.Facts.{In}
use Rattle.store_image.proofs.Clients.{winner_key, winner_is, rising_keys, winner_some}
use Rattle.recover.specs.Winning.{winners_of, with_winner}
use Rattle.recover.proofs.WinningLaws.{above_in}
use Rattle.recover.proofs.NameLaws.{less_of, key_won}

-- no winner
no_winner : (k : ℕ) (es : List PlacedEntry) → (In k (keys_of es) → ⊥) → winner_in k es ≡ None
no_winner k es none = by_winner (winner_in k es) refl where
  by_winner : (o : Option PlacedEntry) → winner_in k es ≡ o → winner_in k es ≡ None
  by_winner None e = e
  by_winner (Some y) e = absurd (none (winner_key k es y e))

-- one entry more in front, of no greater key
module _ (x : PlacedEntry) (es : List PlacedEntry) (low : (y : PlacedEntry) → In y es → x.entry.key ≤ y.entry.key) where
  abbrev of_rest : List ℕ → List PlacedEntry
  of_rest ks = flat_map (λ k. option_to_list (winner_in k es)) ks

  abbrev of_all : List ℕ → List PlacedEntry
  of_all ks = flat_map (λ k. option_to_list (winner_in k (x ∷ es))) ks

  others : (ks : List ℕ) → ((j : ℕ) → In j ks → x.entry.key < j) → of_all ks ≡ of_rest ks
  others [] above = refl
  others (k ∷ ks) above =
      let lt = above k (inl refl) in
      let other : winner_in k (x ∷ es) ≡ winner_in k es = rw (ne_eqb x.entry.key k (λ p. omega (arith, lt, p))) refl in
      let rest = others ks (λ j h. above j (inr h)) in
      (λ i. option_to_list (other i) ++ rest i)

  first_wins : (k : ℕ) → x.entry.key ≡ k → winner_in k (x ∷ es) ≡ Some (better x (winner_in k es))
  first_wins k same = rw (eq-eqb x.entry.key k same) refl

  lone : (ks : List ℕ) → (In x.entry.key (keys_of es) → ⊥) → option_to_list (winner_in x.entry.key (x ∷ es)) ++ of_all ks ≡ x ∷ of_all ks
  lone ks none = (λ i. option_to_list (first_wins x.entry.key refl i) ++ of_all ks) ∙ (λ i. better x (no_winner x.entry.key es none i) ∷ of_all ks)

  chosen : (b : Bool) (y : PlacedEntry) (ws : List PlacedEntry) → cond b y x ∷ ws ≡ cond b (y ∷ ws) (x ∷ ws)
  chosen true y ws = refl
  chosen false y ws = refl

  by_keys : (ks : List ℕ) → keys_of es ≡ ks → of_all (with_key x.entry.key ks) ≡ with_winner x (of_rest ks)
  by_keys [] e = lone [] (λ h. subst (In x.entry.key) e h)
  by_keys (k ∷ ks) e = by_winner (winner_in k es) refl where
    here : In k (keys_of es)
    here = subst (In k) (sym e) (inl refl)

    most : x.entry.key ≤ k
    most = let r = key_won k es here in let l = low r.0 r.1 in let m = r.2 in omega (arith, l, m)

    rising : IsRising (k ∷ ks)
    rising = subst IsRising e (rising_keys es)

    by_winner : (o : Option PlacedEntry) → winner_in k es ≡ o → of_all (with_key x.entry.key (k ∷ ks)) ≡ with_winner x (of_rest (k ∷ ks))
    by_winner None none = absurd (let r = key_won k es here in winner_some k es r.0 r.1 r.2 none)
    by_winner (Some y) won = by_key (x.entry.key == k) refl where
      key : y.entry.key ≡ k
      key = (winner_is k es y won).1

      behind : of_rest (k ∷ ks) ≡ y ∷ of_rest ks
      behind = λ i. option_to_list (won i) ++ of_rest ks

      by_key : (b : Bool) → (x.entry.key == k) ≡ b → of_all (with_key x.entry.key (k ∷ ks)) ≡ with_winner x (of_rest (k ∷ ks))
      by_key true t =
          let same = eqb-true x.entry.key k t in
          let at : with_key x.entry.key (k ∷ ks) ≡ k ∷ ks = rw (le-ltb x.entry.key k (omega (arith, same)), t) refl in
          let rest = others ks (λ j h. let l = above_in k j ks rising.0 h in omega (arith, l, same)) in
          let yes : (y.entry.key == x.entry.key) ≡ true = eq-eqb y.entry.key x.entry.key (key ∙ sym same) in
          ap of_all at
          ∙ (λ i. option_to_list (first_wins k same i) ++ rest i)
          ∙ (λ i. better x (won i) ∷ of_rest ks)
          ∙ chosen (ltb x.entry.version y.entry.version) y (of_rest ks)
          ∙ sym (λ i. cond (yes i && ltb x.entry.version y.entry.version) (y ∷ of_rest ks) (x ∷ cond (yes i) (of_rest ks) (y ∷ of_rest ks)))
          ∙ ap (with_winner x) (sym behind)
      by_key false t =
          let m = most in
          let less = less_of x.entry.key k m (eqb-false x.entry.key k t) in
          let at : with_key x.entry.key (k ∷ ks) ≡ x.entry.key ∷ k ∷ ks = rw (lt-ltb x.entry.key k less) refl in
          let above : (j : ℕ) → In j (k ∷ ks) → x.entry.key < j = in_all less in
          let no : (y.entry.key == x.entry.key) ≡ false = ne_eqb y.entry.key x.entry.key (λ p. let q = key in omega (arith, less, p, q)) in
          ap of_all at
          ∙ lone (k ∷ ks) (λ h. let l = above x.entry.key (subst (In x.entry.key) e h) in omega (arith, l))
          ∙ ap (λ l. x ∷ l) (others (k ∷ ks) above ∙ behind)
          ∙ sym (λ i. cond (no i && ltb x.entry.version y.entry.version) (y ∷ of_rest ks) (x ∷ cond (no i) (of_rest ks) (y ∷ of_rest ks)))
          ∙ ap (with_winner x) (sym behind)
        where
          in_all : x.entry.key < k → (j : ℕ) → In j (k ∷ ks) → x.entry.key < j
          in_all less j (inl p) = omega (arith, less, p)
          in_all less j (inr h) = let l = above_in k j ks rising.0 h in omega (arith, less, l)

  one_more_wins : winners_of (x ∷ es) ≡ with_winner x (winners_of es)
  one_more_wins = by_keys (keys_of es) refl

-- the winners, one entry after another
abbrev pub winners_from : List PlacedEntry → List PlacedEntry
winners_from [] = []
winners_from (x ∷ es) = with_winner x (winners_from es)

abbrev pub KeysRise : List PlacedEntry → Type 0
KeysRise [] = Unit {0}
KeysRise (x ∷ es) = ((y : PlacedEntry) → In y es → x.entry.key ≤ y.entry.key) × KeysRise es

pub from_risen : (es : List PlacedEntry) → KeysRise es → winners_from es ≡ winners_of es
from_risen [] rise = refl
from_risen (x ∷ es) rise = ap (with_winner x) (from_risen es rise.1) ∙ sym (one_more_wins x es rise.0)
