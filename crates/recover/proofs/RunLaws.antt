-- The runs of one key in a list by names, and the winners that they give.
use Rattle.std.proofs.Common.{◌≡◌, ◌≢◌, ◌⊎◌, inl, inr, ℕ, zero, suc, ◌+◌, ◌-◌, ◌<◌, ◌≤◌, ◌==◌, ◌&&◌, Bool, true, false, cond, ltb, List, [], ◌∷◌, ◌++◌, length, take, get_or, map, refl, sym, ◌∙◌, ap, subst, arith}
use Rattle.std.specs.Ordering.{is_lt}
use Rattle.std.proofs.lemmas.List.{take_all}
use Rattle.std.proofs.lemmas.List.Sorted.{ranks_by, sorted_far}
use Rattle.std.proofs.lemmas.Bool.{eqb-true, eqb-false, eq-eqb, ne_eqb, ltb-true, ltb-false, lt-ltb, le-ltb}
use Rattle.chunk_map.specs.declared.layouts.Geometry.{Geometry}
use Rattle.store_image.specs.declared.types.PlacedEntry.{PlacedEntry}
use Rattle.store_image.specs.Facts.{In}
use Rattle.recover.specs.declared.found_entries.Found.{Found}
use Rattle.recover.specs.declared.key_runs.KeyRun.{KeyRun}
use Rattle.recover.specs.Clashes.{name_cmp}
use Rattle.recover.specs.Winning.{winners_of, with_winner}
use Rattle.recover.specs.FoundEntries.{placed_at, entries_at, name_found, AreInOrder}
use Rattle.recover.specs.KeyRuns.{IsRun}
use Rattle.recover.proofs.NameLaws.{not_above, names_total, any_default}
use Rattle.recover.proofs.TakenLaws.{winners_from, KeysRise, from_risen}

-- names rise
module _ (fs : List Found) (rising : AreInOrder fs) where
  pub found_above : (i j : ℕ) (d : Found) → i ≤ j → j < length fs → ((get_or fs i d).key < (get_or fs j d).key) ⊎ (((get_or fs i d).key ≡ (get_or fs j d).key) × ((get_or fs i d).version ≤ (get_or fs j d).version))
  found_above i j d le lt =
      let a = get_or fs i d in
      let b = get_or fs j d in
      not_above a.key a.version b.key b.version (sorted_far (λ x y. is_lt (name_cmp (name_found x) (name_found y))) (ranks_by names_total name_found) fs rising i j d le lt)

  pub found_rise : (i j : ℕ) (d : Found) → i ≤ j → j < length fs → (get_or fs i d).key ≤ (get_or fs j d).key
  found_rise i j d le lt = at_most (found_above i j d le lt) where
    at_most : ((get_or fs i d).key < (get_or fs j d).key) ⊎ (((get_or fs i d).key ≡ (get_or fs j d).key) × ((get_or fs i d).version ≤ (get_or fs j d).version)) → (get_or fs i d).key ≤ (get_or fs j d).key
    at_most (inl less) = omega (arith, less)
    at_most (inr same) = let e = same.0 in omega (arith, e)

  -- and versions of a key
  pub versions_rise : (i j : ℕ) (d : Found) → i ≤ j → j < length fs → (get_or fs i d).key ≡ (get_or fs j d).key → (get_or fs i d).version ≤ (get_or fs j d).version
  versions_rise i j d le lt key = at_most (found_above i j d le lt) where
    at_most : ((get_or fs i d).key < (get_or fs j d).key) ⊎ (((get_or fs i d).key ≡ (get_or fs j d).key) × ((get_or fs i d).version ≤ (get_or fs j d).version)) → (get_or fs i d).version ≤ (get_or fs j d).version
    at_most (inl less) = absurd (omega (arith, less, key))
    at_most (inr same) = same.1

-- a run as far as it was read
pub record RunSoFar (fs : List Found) (at winner end : ℕ) : Type 0 where
  pub low : at ≤ winner
  pub high : winner < end
  pub end_in : end ≤ length fs
  pub same : (i : ℕ) (d : Found) → at ≤ i → i < end → (get_or fs i d).key ≡ (get_or fs at d).key
  pub newest : (i : ℕ) (d : Found) → winner ≤ i → i < end → (get_or fs i d).version ≡ (get_or fs winner d).version
  pub first : (i : ℕ) (d : Found) → at ≤ i → i < winner → (get_or fs i d).version < (get_or fs winner d).version

module _ (fs : List Found) (rising : AreInOrder fs) (at winner end : ℕ) (run : RunSoFar fs at winner end) (lt : end < length fs) (key : (d : Found) → (get_or fs end d).key ≡ (get_or fs at d).key) where
  same_more : (i : ℕ) (d : Found) → at ≤ i → i < end + 1 → (get_or fs i d).key ≡ (get_or fs at d).key
  same_more i d low high = elim (ltb i end) as (λ b. ltb i end ≡ b → (get_or fs i d).key ≡ (get_or fs at d).key) [
    | true ↦ λ e. run.same i d low (ltb-true i end e)
    | false ↦ λ e. (let h = ltb-false i end e in let z : i ≡ end = omega (arith, h, high) in (λ t. (get_or fs (z t) d).key) ∙ key d)
  ] refl

  -- of the same version as the winner
  run_stays : ((d : Found) → (get_or fs end d).version ≡ (get_or fs winner d).version) → RunSoFar fs at winner (end + 1)
  run_stays version = record {
    low = run.low;
    high = let h = run.high in omega (arith, h);
    end_in = omega (arith, lt);
    same = same_more;
    newest = λ i d low high. elim (ltb i end) as (λ b. ltb i end ≡ b → (get_or fs i d).version ≡ (get_or fs winner d).version) [
      | true ↦ λ e. run.newest i d low (ltb-true i end e)
      | false ↦ λ e. (let h = ltb-false i end e in let z : i ≡ end = omega (arith, h, high) in (λ t. (get_or fs (z t) d).version) ∙ version d)
    ] refl;
    first = run.first;
  }

  -- of a greater one
  run_moves : ((d : Found) → (get_or fs end d).version ≢ (get_or fs winner d).version) → RunSoFar fs at end (end + 1)
  run_moves other = record {
    low = let l = run.low in let h = run.high in omega (arith, l, h);
    high = omega arith;
    end_in = omega (arith, lt);
    same = same_more;
    newest = λ i d low high. (let z : i ≡ end = omega (arith, low, high) in λ t. (get_or fs (z t) d).version);
    first = λ i d low high.
        let h = run.high in
        let l = run.low in
        let le = versions_rise fs rising winner end d (omega (arith, h)) lt (run.same winner d run.low run.high ∙ sym (key d)) in
        let ne = other d in
        elim (ltb i winner) as (λ b. ltb i winner ≡ b → (get_or fs i d).version < (get_or fs end d).version) [
          | true ↦ λ e. (let less = run.first i d low (ltb-true i winner e) in omega (arith, less, le))
          | false ↦ λ e. (let v = run.newest i d (ltb-false i winner e) high in omega (arith, v, le, ne))
        ] refl;
  }

  pub run_more : (w : ℕ) → ((d : Found) → w ≡ cond ((get_or fs end d).version == (get_or fs winner d).version) winner end) → RunSoFar fs at w (end + 1)
  run_more w is = by_version ((get_or fs end any).version == (get_or fs winner any).version) refl (is any) where
    any : Found
    any = record { key = 0; version = 0; at = 0 }

    to_any : (i : ℕ) (d : Found) → i < length fs → (get_or fs i d).version ≡ (get_or fs i any).version
    to_any i d in_fs = ap (λ (f : Found). f.version) (any_default fs i d any in_fs)

    by_version : (b : Bool) → ((get_or fs end any).version == (get_or fs winner any).version) ≡ b → w ≡ cond b winner end → RunSoFar fs at w (end + 1)
    by_version true e same = subst (λ n. RunSoFar fs at n (end + 1)) (sym same) (run_stays (λ d. to_any end d lt ∙ eqb-true (get_or fs end any).version (get_or fs winner any).version e ∙ sym (to_any winner d (let h = run.high in omega (arith, h, lt)))))
    by_version false e same = subst (λ n. RunSoFar fs at n (end + 1)) (sym same) (run_moves (λ d p. eqb-false (get_or fs end any).version (get_or fs winner any).version e (sym (to_any end d lt) ∙ p ∙ to_any winner d (let h = run.high in omega (arith, h, lt)))))

-- so many elements from a place on
abbrev span : {X : Type 0} → (ℕ → X) → ℕ → ℕ → List X
span f a zero = []
span f a (suc n) = f a ∷ span f (suc a) n

span_append : {X : Type 0} (f : ℕ → X) (a m n : ℕ) → span f a (m + n) ≡ span f a m ++ span f (a + m) n
span_append f a zero n = let e : 0 + n ≡ n = omega arith in let z : a ≡ a + 0 = omega arith in ap (span f a) e ∙ ap (λ k. span f k n) z
span_append f a (suc m) n =
    let e : suc m + n ≡ suc (m + n) = omega arith in
    let z : suc a + m ≡ a + suc m = omega arith in
    ap (span f a) e ∙ ap (λ l. f a ∷ l) (span_append f (suc a) m n ∙ ap (λ k. span f (suc a) m ++ span f k n) z)

span_shift : {X : Type 0} (f g : ℕ → X) (a b n : ℕ) → ((i : ℕ) → i < n → f (a + i) ≡ g (b + i)) → span f a n ≡ span g b n
span_shift f g a b zero same = refl
span_shift f g a b (suc n) same =
    let za : a + 0 ≡ a = omega arith in
    let zb : b + 0 ≡ b = omega arith in
    let first = sym (ap f za) ∙ same 0 (omega arith) ∙ ap g zb in
    let rest = span_shift f g (suc a) (suc b) n (λ i lt. (let p : suc a + i ≡ a + suc i = omega arith in let q : b + suc i ≡ suc b + i = omega arith in ap f p ∙ same (suc i) (omega (arith, lt)) ∙ ap g q)) in
    (λ i. first i ∷ rest i)

take_span : {X Y : Type 0} (g : X → Y) (xs : List X) (n : ℕ) (d : X) → n ≤ length xs → map g (take n xs) ≡ span (λ i. g (get_or xs i d)) 0 n
take_span g xs zero d le = refl
take_span g [] (suc n) d le = absurd (omega (arith, le))
take_span g (x ∷ xs) (suc n) d le =
    ap (λ l. g x ∷ l) (take_span g xs n d (omega (arith, le)) ∙ span_shift (λ i. g (get_or xs i d)) (λ i. g (get_or (x ∷ xs) i d)) 0 1 n (λ i lt. (let p : 0 + i ≡ i = omega arith in let q : suc i ≡ 1 + i = omega arith in ap (λ k. g (get_or xs k d)) p ∙ ap (λ k. g (get_or (x ∷ xs) k d)) q)))

in_span : {X : Type 0} (f : ℕ → X) (a n : ℕ) (y : X) → In y (span f a n) → (i : ℕ) × (a ≤ i) × (i < a + n) × (y ≡ f i)
in_span f a zero y h = absurd h
in_span f a (suc n) y (inl e) = (a, omega arith, omega arith, e)
in_span f a (suc n) y (inr h) = let r = in_span f (suc a) n y h in let low = r.1 in let high = r.2 in (r.0, omega (arith, low), omega (arith, high), r.3)

-- winners, where keys differ, and in one key
lone : (x : PlacedEntry) (vs : List PlacedEntry) → ((y : PlacedEntry) → In y vs → x.entry.key ≢ y.entry.key) → with_winner x vs ≡ x ∷ vs
lone x [] other = refl
lone x (y ∷ vs) other = let no : (y.entry.key == x.entry.key) ≡ false = ne_eqb y.entry.key x.entry.key (λ p. other y (inl refl) (sym p)) in (λ i. cond (no i && ltb x.entry.version y.entry.version) (y ∷ vs) (x ∷ cond (no i) vs (y ∷ vs)))

in_front : (x : PlacedEntry) (ws vs : List PlacedEntry) → ((y : PlacedEntry) → In y vs → x.entry.key ≢ y.entry.key) → with_winner x (ws ++ vs) ≡ with_winner x ws ++ vs
in_front x [] vs other = lone x vs other
in_front x (y ∷ ws) vs other = by_two (y.entry.key == x.entry.key) (ltb x.entry.version y.entry.version) where
  by_two : (b c : Bool) → cond (b && c) (y ∷ (ws ++ vs)) (x ∷ cond b (ws ++ vs) (y ∷ (ws ++ vs))) ≡ cond (b && c) (y ∷ ws) (x ∷ cond b ws (y ∷ ws)) ++ vs
  by_two true true = refl
  by_two true false = refl
  by_two false c = refl

module _ (f : ℕ → PlacedEntry) where
  -- entries of one version: the first wins
  same_win : (a n : ℕ) → ((i : ℕ) → a ≤ i → i < a + suc n → ((f i).entry.key ≡ (f a).entry.key) × ((f i).entry.version ≡ (f a).entry.version)) → winners_from (span f a (suc n)) ≡ f a ∷ []
  same_win a zero same = refl
  same_win a (suc n) same =
      let next = same (suc a) (omega arith) (omega arith) in
      let rest = same_win (suc a) n (λ i low high. (let here = same i (omega (arith, low)) (omega (arith, high)) in (here.0 ∙ sym next.0, here.1 ∙ sym next.1))) in
      let key : ((f (suc a)).entry.key == (f a).entry.key) ≡ true = eq-eqb (f (suc a)).entry.key (f a).entry.key next.0 in
      let version = next.1 in
      let older : ltb (f a).entry.version (f (suc a)).entry.version ≡ false = le-ltb (f a).entry.version (f (suc a)).entry.version (omega (arith, version)) in
      ap (with_winner (f a)) rest ∙ (λ i. cond (key i && older i) (f (suc a) ∷ []) (f a ∷ cond (key i) [] (f (suc a) ∷ [])))

  -- older ones in front lose
  older_lose : (a m n w : ℕ) → a + m ≡ w → winners_from (span f w n) ≡ f w ∷ [] → ((i : ℕ) → a ≤ i → i < w → ((f i).entry.key ≡ (f w).entry.key) × ((f i).entry.version < (f w).entry.version)) → winners_from (span f a (m + n)) ≡ f w ∷ []
  older_lose a zero n w at won older =
      let e : 0 + n ≡ n = omega arith in
      let z : a ≡ w = omega (arith, at) in
      ap (λ k. winners_from (span f a k)) e ∙ ap (λ k. winners_from (span f k n)) z ∙ won
  older_lose a (suc m) n w at won older =
      let e : suc m + n ≡ suc (m + n) = omega arith in
      let rest = older_lose (suc a) m n w (omega (arith, at)) won (λ i low high. older i (omega (arith, low)) high) in
      let here = older a (omega arith) (omega (arith, at)) in
      let key : ((f w).entry.key == (f a).entry.key) ≡ true = eq-eqb (f w).entry.key (f a).entry.key (sym here.0) in
      let less : ltb (f a).entry.version (f w).entry.version ≡ true = lt-ltb (f a).entry.version (f w).entry.version here.1 in
      ap (λ k. winners_from (span f a k)) e ∙ ap (with_winner (f a)) rest ∙ (λ i. cond (key i && less i) (f w ∷ []) (f a ∷ cond (key i) [] (f w ∷ [])))

  -- those of other keys stay
  others_stay : (a m : ℕ) (vs ws : List PlacedEntry) → winners_from vs ≡ ws → ((i : ℕ) (y : PlacedEntry) → a ≤ i → i < a + m → In y ws → (f i).entry.key ≢ y.entry.key) → winners_from (span f a m ++ vs) ≡ winners_from (span f a m) ++ ws
  others_stay a zero vs ws won other = won
  others_stay a (suc m) vs ws won other =
      ap (with_winner (f a)) (others_stay (suc a) m vs ws won (λ i y low high. other i y (omega (arith, low)) (omega (arith, high))))
      ∙ in_front (f a) (winners_from (span f (suc a) m)) ws (λ y. other a y (omega arith) (omega arith))

  span_rises : (a n : ℕ) → ((i j : ℕ) → i ≤ j → j < a + n → (f i).entry.key ≤ (f j).entry.key) → KeysRise (span f a n)
  span_rises a zero up = tt
  span_rises a (suc n) up = (
    λ y h. (let r = in_span f (suc a) n y h in
        let low = r.1 in
        let high = r.2 in
        let le = up a r.0 (omega (arith, low)) (omega (arith, high)) in
        let key : y.entry.key ≡ (f r.0).entry.key = ap (λ (z : PlacedEntry). z.entry.key) r.3 in
        omega (arith, le, key)),
    span_rises (suc a) n (λ i j le lt. up i j le (omega (arith, lt))),
  )

-- a winner is one of the entries
with_in : (y x : PlacedEntry) (ws : List PlacedEntry) → In y (with_winner x ws) → (y ≡ x) ⊎ In y ws
with_in y x [] (inl e) = inl e
with_in y x [] (inr none) = absurd none
with_in y x (w ∷ ws) h = by_two (w.entry.key == x.entry.key) (ltb x.entry.version w.entry.version) h where
  first : In y (x ∷ (w ∷ ws)) → (y ≡ x) ⊎ In y (w ∷ ws)
  first (inl e) = inl e
  first (inr g) = inr g

  over : In y (x ∷ ws) → (y ≡ x) ⊎ In y (w ∷ ws)
  over (inl e) = inl e
  over (inr g) = inr (inr g)

  by_two : (b c : Bool) → In y (cond (b && c) (w ∷ ws) (x ∷ cond b ws (w ∷ ws))) → (y ≡ x) ⊎ In y (w ∷ ws)
  by_two true true h = inr h
  by_two true false h = over h
  by_two false c h = first h

winner_in_list : (vs : List PlacedEntry) (y : PlacedEntry) → In y (winners_from vs) → In y vs
winner_in_list [] y h = h
winner_in_list (x ∷ vs) y h = either (winner_in_list vs y) (with_in y x (winners_from vs) h) where
  either : (In y (winners_from vs) → In y vs) → (y ≡ x) ⊎ In y (winners_from vs) → In y (x ∷ vs)
  either more (inl e) = inl e
  either more (inr g) = inr (more g)

-- a key begins at a place of a list by names
abbrev pub Begins : List Found → ℕ → Type 0
Begins fs at = (d : Found) → 0 < at → at < length fs → (get_or fs (at - 1) d).key ≢ (get_or fs at d).key

module _ (l : Geometry) (image : ℕ → ℕ) (fs : List Found) (rising : AreInOrder fs) (at : ℕ) (begins : Begins fs at) (r : KeyRun) (run : IsRun fs at r) where
  -- the next key begins behind the run
  pub run_begins : Begins fs r.end
  run_begins d some lt p =
      let low = run.low in
      let high = run.high in
      run.other d lt (sym p ∙ run.same (r.end - 1) d (omega (arith, low, high)) (omega (arith, high)))

  -- the run's winner comes to those before
  pub run_wins : (d : Found) → winners_of (entries_at l image (take r.end fs)) ≡ winners_of (entries_at l image (take at fs)) ++ placed_at l image (get_or fs r.winner d) ∷ []
  run_wins d =
      let f : ℕ → PlacedEntry = λ i. placed_at l image (get_or fs i d) in
      let low = run.low in
      let high = run.high in
      let within = run.end in
      let m = r.winner - at in
      let n = r.end - r.winner in
      let w_at : at + m ≡ r.winner = omega (arith, low) in
      let some : suc (n - 1) ≡ n = omega (arith, high) in
      let all : at + (m + n) ≡ r.end = omega (arith, low, high) in
      let own : winners_from (span f r.winner n) ≡ f r.winner ∷ [] =
      ap (λ k. winners_from (span f r.winner k)) (sym some) ∙ same_win f r.winner (n - 1) (λ i l h. (run.same i d (omega (arith, l, low)) (omega (arith, h, some, high)) ∙ sym (run.same r.winner d low high), run.newest i d l (omega (arith, h, some, high)))) in
      let whole : winners_from (span f at (m + n)) ≡ f r.winner ∷ [] =
      older_lose f at m n r.winner w_at own (λ i l h. (run.same i d l (omega (arith, h, high)) ∙ sym (run.same r.winner d low high), run.first i d l h)) in
      let other : (i : ℕ) (y : PlacedEntry) → 0 ≤ i → i < 0 + at → In y (f r.winner ∷ []) → (f i).entry.key ≢ y.entry.key = λ i y l h mem. differs i y h mem in
      let both : winners_from (span f 0 at ++ span f at (m + n)) ≡ winners_from (span f 0 at) ++ f r.winner ∷ [] = others_stay f 0 at (span f at (m + n)) (f r.winner ∷ []) whole other in
      let z : 0 + at ≡ at = omega arith in
      let joined : span f 0 (at + (m + n)) ≡ span f 0 at ++ span f at (m + n) = span_append f 0 at (m + n) ∙ ap (λ k. span f 0 at ++ span f k (m + n)) z in
      ap winners_of (take_span (placed_at l image) fs r.end d within)
      ∙ sym (from_risen (span f 0 r.end) (span_rises f 0 r.end (λ i j le lt. found_rise fs rising i j d le (omega (arith, lt, within)))))
      ∙ ap (λ k. winners_from (span f 0 k)) (sym all) ∙ ap winners_from joined ∙ both
      ∙ ap (λ ws. ws ++ f r.winner ∷ []) (from_risen (span f 0 at) (span_rises f 0 at (λ i j le lt. found_rise fs rising i j d le (omega (arith, lt, low, high, within)))) ∙ sym (ap winners_of (take_span (placed_at l image) fs at d (omega (arith, low, high, within)))))
    where
      differs : (i : ℕ) (y : PlacedEntry) → i < 0 + at → In y (placed_at l image (get_or fs r.winner d) ∷ []) → (get_or fs i d).key ≢ y.entry.key
      differs i y h (inr none) p = absurd none
      differs i y h (inl e) p =
          let low = run.low in
          let high = run.high in
          let within = run.end in
          let key : y.entry.key ≡ (get_or fs r.winner d).key = ap (λ (z : PlacedEntry). z.entry.key) e in
          let same = run.same r.winner d low high in
          let first = found_rise fs rising i (at - 1) d (omega (arith, h)) (omega (arith, h, low, high, within)) in
          let next = found_rise fs rising (at - 1) at d (omega arith) (omega (arith, low, high, within)) in
          begins d (omega (arith, h)) (omega (arith, low, high, within)) (omega (arith, first, next, key, same, p))

-- the winners of those in front of a key are the first of all
module _ (l : Geometry) (image : ℕ → ℕ) (fs : List Found) (rising : AreInOrder fs) (at : ℕ) (begins : Begins fs at) (within : at ≤ length fs) where
  abbrev d : Found
  d = record { key = 0; version = 0; at = 0 }

  abbrev f : ℕ → PlacedEntry
  f i = placed_at l image (get_or fs i d)

  abbrev n : ℕ
  n = length fs - at

  pub cut_wins : (rest : List PlacedEntry) × (winners_of (entries_at l image fs) ≡ winners_of (entries_at l image (take at fs)) ++ rest)
  cut_wins = (winners_from (span f at n), whole) where
    differs : (i : ℕ) (y : PlacedEntry) → 0 ≤ i → i < 0 + at → In y (winners_from (span f at n)) → (f i).entry.key ≢ y.entry.key
    differs i y low high mem p =
        let r = in_span f at n y (winner_in_list (span f at n) y mem) in
        let a = r.1 in
        let b = r.2 in
        let in_fs : r.0 < length fs = omega (arith, b, within) in
        let key : y.entry.key ≡ (get_or fs r.0 d).key = ap (λ (z : PlacedEntry). z.entry.key) r.3 in
        let first = found_rise fs rising i (at - 1) d (omega (arith, high)) (omega (arith, high, a, in_fs)) in
        let next = found_rise fs rising (at - 1) at d (omega arith) (omega (arith, a, in_fs)) in
        let last = found_rise fs rising at r.0 d a in_fs in
        begins d (omega (arith, high)) (omega (arith, a, in_fs)) (omega (arith, first, next, last, key, p))

    up : (m : ℕ) → m ≤ length fs → (i j : ℕ) → i ≤ j → j < 0 + m → (f i).entry.key ≤ (f j).entry.key
    up m le i j low high = found_rise fs rising i j d low (omega (arith, high, le))

    whole : winners_of (entries_at l image fs) ≡ winners_of (entries_at l image (take at fs)) ++ winners_from (span f at n)
    whole =
        let z : 0 + at ≡ at = omega arith in
        let all : at + n ≡ length fs = omega (arith, within) in
        ap (λ l1. winners_of (entries_at l image l1)) (sym (take_all (length fs) fs (omega arith)))
        ∙ ap winners_of (take_span (placed_at l image) fs (length fs) d (omega arith))
        ∙ sym (from_risen (span f 0 (length fs)) (span_rises f 0 (length fs) (up (length fs) (omega arith))))
        ∙ ap (λ k. winners_from (span f 0 k)) (sym all)
        ∙ ap winners_from (span_append f 0 at n ∙ ap (λ k. span f 0 at ++ span f k n) z)
        ∙ others_stay f 0 at (span f at n) (winners_from (span f at n)) refl differs
        ∙ ap (λ ws. ws ++ winners_from (span f at n)) (from_risen (span f 0 at) (span_rises f 0 at (up at within)) ∙ sym (ap winners_of (take_span (placed_at l image) fs at d within)))
