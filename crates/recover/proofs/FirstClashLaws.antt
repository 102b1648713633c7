-- The first entry that contradicts one in front of it is found among neighbours by their names.
use Rattle.std.proofs.Common.{◌≡◌, ◌⊎◌, inl, inr, ℕ, ◌+◌, ◌-◌, ◌<◌, ◌≤◌, List, [], ◌∷◌, ◌++◌, length, get_or, map, refl, sym, ◌∙◌, ap, subst, arith, Bool, true, false, cond, ltb, Option, Some, None}
use Rattle.std.specs.Prelude.{option_map}
use Rattle.std.specs.List.{list_any}
use Rattle.std.proofs.lemmas.List.{get_or-map, length-map, map-append}
use Rattle.std.proofs.lemmas.Bool.{ltb-true, ltb-false}
use Rattle.chunk_map.specs.declared.layouts.Geometry.{Geometry}
use Rattle.store_image.specs.declared.types.PlacedEntry.{PlacedEntry}
use Rattle.store_image.specs.Facts.{In, Agree}
use Rattle.store_image.specs.Soundness.{contradicts, damaged, clash_after, clash_fault}
use Rattle.store_image.proofs.Clients.{in_back, in_either, in_front}
use Rattle.recover.specs.declared.found_entries.Found.{Found}
use Rattle.recover.specs.FoundEntries.{core_at, chunk_there, placed_at, entries_at, AreInOrder, RiseByWord, WordsKeep}
use Rattle.recover.specs.FirstClash.{lower, IsFirstClash, IsFirst}
use Rattle.recover.proofs.ClashLaws.{agrees, any_in, clash_at, contradicts_name, no_contradiction, true_or_false}
use Rattle.recover.specs.Clashes.{HasName}
use Rattle.recover.proofs.NameLaws.{NeighboursAgree, all_agree, at_in, between, in_at, one_of, run_agrees}
use Rattle.recover.proofs.RunLaws.{found_above}
use Rattle.recover.proofs.KeyLaws.{in_map}
use Rattle.recover.proofs.FoundEntryLaws.{in_order, near_more, no_found}

-- A pair of neighbours that contradict each other, of which the second is the lowest by its word.
pub record LowestClash (l : Geometry) (image : ℕ → ℕ) (fs : List Found) (n w : ℕ) : Type 0 where
  pub at : ℕ
  pub within : at + 1 < length fs
  pub word : (get_or fs (at + 1) no_found).at ≡ w
  pub contradict : contradicts (placed_at l image (get_or fs (at + 1) no_found)) (placed_at l image (get_or fs at no_found)) ≡ true
  pub lowest : (j : ℕ) → j + 1 < n → contradicts (placed_at l image (get_or fs (j + 1) no_found)) (placed_at l image (get_or fs j no_found)) ≡ true → w ≤ (get_or fs (j + 1) no_found).at

-- of the first so many
abbrev pub SoFar : Geometry → (ℕ → ℕ) → List Found → ℕ → Option ℕ → Type 0
SoFar l image fs n None = NeighboursAgree (entries_at l image fs) n
SoFar l image fs n (Some w) = LowestClash l image fs n w

module _ (l : Geometry) (image : ℕ → ℕ) (fs : List Found) where
  abbrev pub entry : ℕ → PlacedEntry
  entry i = placed_at l image (get_or fs i no_found)

  not_both : (b : Bool) → b ≡ true → b ≡ false → ⊥
  not_both b is isnt = cc (sym is ∙ isnt)

  lower_left : (v w : ℕ) → lower (Some v) w ≤ v
  lower_left v w = elim (ltb v w) as (λ b. ltb v w ≡ b → cond b v w ≤ v) [
    | true ↦ λ e. omega arith
    | false ↦ λ e. (let h = ltb-false v w e in omega (arith, h))
  ] refl

  lower_right : (v w : ℕ) → lower (Some v) w ≤ w
  lower_right v w = elim (ltb v w) as (λ b. ltb v w ≡ b → cond b v w ≤ w) [
    | true ↦ λ e. (let h = ltb-true v w e in omega (arith, h))
    | false ↦ λ e. omega arith
  ] refl

  -- what neighbours among so many are, or the last pair
  last_or : (n j : ℕ) → j + 1 < n + 1 → (j + 1 < n) ⊎ (j + 1 ≡ n)
  last_or n j lt = elim (ltb (j + 1) n) as (λ b. ltb (j + 1) n ≡ b → (j + 1 < n) ⊎ (j + 1 ≡ n)) [
    | true ↦ λ e. inl (ltb-true (j + 1) n e)
    | false ↦ λ e. (let h = ltb-false (j + 1) n e in inr (omega (arith, h, lt)))
  ] refl

  -- one more agrees with the one before it
  pub none_here : (o : Option ℕ) (n : ℕ) → 0 < n → n < length fs → SoFar l image fs n o → contradicts (entry n) (entry (n - 1)) ≡ false → SoFar l image fs (n + 1) o
  none_here None n some lt so_far fine = near_more l image fs n some lt so_far fine
  none_here (Some w) n some lt so_far fine = record {
    at = so_far.at;
    within = so_far.within;
    word = so_far.word;
    contradict = so_far.contradict;
    lowest = λ j high bad. by_place j (last_or n j high) bad;
  } where
    by_place : (j : ℕ) → (j + 1 < n) ⊎ (j + 1 ≡ n) → contradicts (entry (j + 1)) (entry j) ≡ true → w ≤ (get_or fs (j + 1) no_found).at
    by_place j (inl less) bad = so_far.lowest j less bad
    by_place j (inr same) bad =
        let before : j ≡ n - 1 = omega (arith, same) in
        absurd (not_both (contradicts (entry n) (entry (n - 1))) (sym (λ i. contradicts (entry (same i)) (entry (before i))) ∙ bad) fine)

  -- or contradicts it
  pub clash_here : (o : Option ℕ) (n : ℕ) → 0 < n → n < length fs → SoFar l image fs n o → contradicts (entry n) (entry (n - 1)) ≡ true → SoFar l image fs (n + 1) (Some (lower o (get_or fs n no_found).at))
  clash_here o n some lt so_far bad = by_first o so_far where
    p : n - 1 + 1 ≡ n
    p = omega (arith, some)

    own : (m : ℕ) → ((j : ℕ) → j + 1 < n + 1 → contradicts (entry (j + 1)) (entry j) ≡ true → m ≤ (get_or fs (j + 1) no_found).at) → m ≡ (get_or fs n no_found).at → LowestClash l image fs (n + 1) m
    own m lowest is = record {
      at = n - 1;
      within = omega (arith, some, lt);
      word = (λ i. (get_or fs (p i) no_found).at) ∙ sym is;
      contradict = (λ i. contradicts (entry (p i)) (entry (n - 1))) ∙ bad;
      lowest = lowest;
    }

    by_first : (o : Option ℕ) → SoFar l image fs n o → LowestClash l image fs (n + 1) (lower o (get_or fs n no_found).at)
    by_first None so_far = own (get_or fs n no_found).at (λ j high clash. by_place j (last_or n j high) clash) refl where
      by_place : (j : ℕ) → (j + 1 < n) ⊎ (j + 1 ≡ n) → contradicts (entry (j + 1)) (entry j) ≡ true → (get_or fs n no_found).at ≤ (get_or fs (j + 1) no_found).at
      by_place j (inl less) clash = absurd (not_both (contradicts (entry (j + 1)) (entry j)) clash (near_at j less))
        where
          near_at : (j : ℕ) → j + 1 < n → contradicts (entry (j + 1)) (entry j) ≡ false
          near_at j less =
              let d = entry j in
              let one = get_or-map (placed_at l image) fs (j + 1) no_found d (omega (arith, less, lt)) in
              let other = get_or-map (placed_at l image) fs j no_found d (omega (arith, less, lt)) in
              sym (λ i. contradicts (one i) (other i)) ∙ so_far j d less
      by_place j (inr same) clash = let e = ap (λ k. (get_or fs k no_found).at) same in omega (arith, e)
    by_first (Some v) so_far = by_less (ltb v (get_or fs n no_found).at) refl where
      low_all : (m : ℕ) → m ≤ v → m ≤ (get_or fs n no_found).at → (j : ℕ) → j + 1 < n + 1 → contradicts (entry (j + 1)) (entry j) ≡ true → m ≤ (get_or fs (j + 1) no_found).at
      low_all m left right j high clash = by_place (last_or n j high) where
        by_place : (j + 1 < n) ⊎ (j + 1 ≡ n) → m ≤ (get_or fs (j + 1) no_found).at
        by_place (inl less) = let low = so_far.lowest j less clash in omega (arith, low, left)
        by_place (inr same) = let e = ap (λ k. (get_or fs k no_found).at) same in omega (arith, e, right)

      w : ℕ
      w = (get_or fs n no_found).at

      by_less : (b : Bool) → ltb v w ≡ b → LowestClash l image fs (n + 1) (lower (Some v) w)
      by_less true e =
          let is : lower (Some v) w ≡ v = ap (λ b. cond b v w) e in
          subst (LowestClash l image fs (n + 1)) (sym is) (record {
            at = so_far.at;
            within = so_far.within;
            word = so_far.word;
            contradict = so_far.contradict;
            lowest = low_all v (omega arith) (let h = ltb-true v w e in omega (arith, h));
          })
      by_less false e =
          let is : lower (Some v) w ≡ w = ap (λ b. cond b v w) e in
          subst (LowestClash l image fs (n + 1)) (sym is) (own w (low_all w (let h = ltb-false v w e in omega (arith, h)) (omega arith)) refl)

  -- so the lowest of all is the first that contradicts one in front of it
  module _ (order : AreInOrder fs) (words : WordsKeep fs) (n w : ℕ) (all : length fs ≤ n) (lowest : LowestClash l image fs n w) where
    at_map : (i : ℕ) (d : PlacedEntry) → i < length fs → get_or (entries_at l image fs) i d ≡ entry i
    at_map i d lt = get_or-map (placed_at l image) fs i no_found d lt

    -- two of one name in front of it
    agree_below : (i j : ℕ) → i ≤ j → j < length fs → (entry i).entry.key ≡ (entry j).entry.key → (entry i).entry.version ≡ (entry j).entry.version → (get_or fs j no_found).at < w → ((entry i).entry.body ≡ (entry j).entry.body) × ((entry i).core ≡ (entry j).core)
    agree_below i j le lt key version below =
        let es = entries_at l image fs in
        let d = entry i in
        let long = length-map fs (placed_at l image) in
        let one = at_map i d (omega (arith, le, lt)) in
        let other = at_map j d lt in
        let r = run_agrees es (in_order l image fs order) i j near j i d (omega arith) le (omega arith) (omega (arith, lt, long)) ((λ t. (one t).entry.key) ∙ key ∙ sym (λ t. (other t).entry.key)) ((λ t. (one t).entry.version) ∙ version ∙ sym (λ t. (other t).entry.version)) in
        (sym (λ t. (one t).entry.body) ∙ r.0 ∙ (λ t. (other t).entry.body), sym (λ t. (one t).core) ∙ r.1 ∙ (λ t. (other t).core))
      where
        near : (m : ℕ) (d : PlacedEntry) → i ≤ m → m < j → contradicts (get_or (entries_at l image fs) (m + 1) d) (get_or (entries_at l image fs) m d) ≡ false
        near m d from to =
            let one = at_map (m + 1) d (omega (arith, to, lt)) in
            let other = at_map m d (omega (arith, to, lt)) in
            (λ t. contradicts (one t) (other t)) ∙ true_or_false (contradicts (entry (m + 1)) (entry m)) (λ bad.
            let b = get_or fs (m + 1) no_found in
            let same = between (entry i).entry.key (entry i).entry.version b.key b.version (entry j).entry.key (entry j).entry.version (found_above fs order i (m + 1) no_found (omega (arith, from)) (omega (arith, to, lt))) (found_above fs order (m + 1) j no_found (omega (arith, to)) lt) key version in
            let low = lowest.lowest m (omega (arith, to, lt, all)) bad in
            let up = words (m + 1) j no_found (omega (arith, to)) lt (sym same.0 ∙ key) (sym same.1 ∙ version) in
            omega (arith, low, up, below))

    apart : (i j : ℕ) → i < length fs → j < length fs → (get_or fs i no_found).at < w → (get_or fs j no_found).at < w → contradicts (entry i) (entry j) ≡ false
    apart i j li lj bi bj = true_or_false (contradicts (entry i) (entry j)) (λ bad. by_order bad (contradicts_name (entry i) (entry j) bad) (ltb i j) refl) where
      by_order : contradicts (entry i) (entry j) ≡ true → HasName (entry i).entry.key (entry i).entry.version (entry j) → (b : Bool) → ltb i j ≡ b → ⊥
      by_order bad name true e =
          let less = ltb-true i j e in
          let r = agree_below i j (omega (arith, less)) lj (sym name.key) (sym name.version) bj in
          not_both (contradicts (entry i) (entry j)) bad (no_contradiction (entry i) (entry j) r.0 r.1)
      by_order bad name false e =
          let r = agree_below j i (ltb-false i j e) li name.key name.version bi in
          not_both (contradicts (entry i) (entry j)) bad (no_contradiction (entry i) (entry j) (sym r.0) (sym r.1))

    pub is_first : IsFirstClash l image fs w
    is_first =
        let at = lowest.at in
        let within = lowest.within in
        let name = contradicts_name (entry (at + 1)) (entry at) lowest.contradict in
        let front = words at (at + 1) no_found (omega arith) within name.key name.version in
        let word = lowest.word in
        record {
          clash = get_or fs (at + 1) no_found;
          there = at_in fs (at + 1) no_found within;
          word = word;
          other = get_or fs at no_found;
          other_there = at_in fs at no_found (omega (arith, within));
          in_front = omega (arith, front, word);
          contradict = lowest.contradict;
          none_before = λ f g hf hg bf bg. (let i = in_at f fs hf in
              let j = in_at g fs hg in
              sym (λ t. contradicts (placed_at l image (i.2 no_found t)) (placed_at l image (j.2 no_found t)))
              ∙ apart i.0 j.0 i.1 j.1 (subst (λ (x : Found). x.at < w) (sym (i.2 no_found)) bf) (subst (λ (x : Found). x.at < w) (sym (j.2 no_found)) bg));
        }

-- what was found among all of them
pub all_read : (l : Geometry) (image : ℕ → ℕ) (fs : List Found) → AreInOrder fs → WordsKeep fs → (n : ℕ) (o : Option ℕ) → length fs ≤ n → SoFar l image fs n o → IsFirst l image fs o
all_read l image fs order words n None all near =
    let long = length-map fs (placed_at l image) in
    all_agree (entries_at l image fs) (in_order l image fs order) (λ j d lt. near j d (omega (arith, lt, long, all)))
all_read l image fs order words n (Some w) all lowest = is_first l image fs order words n w all lowest

-- a list round one of its elements
record Around (x : Found) (fs : List Found) : Type 0 where
  pub front : List Found
  pub back : List Found
  pub is : fs ≡ front ++ x ∷ back

around : (x : Found) (fs : List Found) → In x fs → Around x fs
around x [] h = absurd h
around x (y ∷ ys) (inl e) = record { front = []; back = ys; is = ap (λ z. z ∷ ys) (sym e) }
around x (y ∷ ys) (inr h) = let r = around x ys h in record { front = y ∷ r.front; back = r.back; is = ap (λ zs. y ∷ zs) r.is }

-- those in front begin in front of it, and those behind it behind
front_below : (x : Found) (pre post : List Found) → RiseByWord (pre ++ x ∷ post) → (f : Found) → In f pre → f.at < x.at
front_below x [] post rise f h = absurd h
front_below x (y ∷ ys) post rise f (inl e) = subst (λ (z : Found). z.at < x.at) (sym e) (one_of (λ (g : Found). y.at < g.at) (ys ++ x ∷ post) x rise.0 (in_back x ys (x ∷ post) (inl refl)))
front_below x (y ∷ ys) post rise f (inr h) = front_below x ys post rise.1 f h

back_above : (x : Found) (pre post : List Found) → RiseByWord (pre ++ x ∷ post) → (f : Found) → In f post → x.at < f.at
back_above x [] post rise f h = one_of (λ (g : Found). x.at < g.at) post f rise.0 h
back_above x (y ∷ ys) post rise f h = back_above x ys post rise.1 f h

map_in : {X Y : Type 0} (f : X → Y) (xs : List X) (x : X) → In x xs → In (f x) (map f xs)
map_in f [] x h = h
map_in f (y ∷ ys) x (inl e) = inl (ap f e)
map_in f (y ∷ ys) x (inr h) = inr (map_in f ys x h)

module _ (l : Geometry) (image : ℕ → ℕ) (fs xs : List Found) (rise : RiseByWord fs) (w : ℕ) (first : IsFirstClash l image xs w) (there : (f : Found) → In f xs → In f fs) (back : (f : Found) → In f fs → In f xs) where
  pub clash_found : Some (damaged (core_at l w) (chunk_there l w) 8) ≡ clash_fault (entries_at l image fs)
  clash_found = by_around (around first.clash fs (there first.clash first.there)) where
    by_around : Around first.clash fs → Some (damaged (core_at l w) (chunk_there l w) 8) ≡ clash_fault (entries_at l image fs)
    by_around r = sym (λ i. Some (damaged (core_at l (first.word i)) (chunk_there l (first.word i)) 8)) ∙ sym (ap (option_map (λ (y : PlacedEntry). damaged y.core y.chunk 8)) found) where
      rising : RiseByWord (r.front ++ first.clash ∷ r.back)
      rising = subst RiseByWord r.is rise

      below : (f : Found) → In f r.front → f.at < w
      below f h = subst (λ n. f.at < n) first.word (front_below first.clash r.front r.back rising f h)

      in_list : (f : Found) → In f r.front → In f xs
      in_list f h = back f (subst (In f) (sym r.is) (in_front f r.front (first.clash ∷ r.back) h))

      agree : Agree (entries_at l image r.front)
      agree a b ha hb key version =
          let f = in_map (placed_at l image) r.front a ha in
          let g = in_map (placed_at l image) r.front b hb in
          let none = first.none_before f.0 g.0 (in_list f.0 f.1) (in_list g.0 g.1) (below f.0 f.1) (below g.0 g.1) in
          let fine : contradicts a b ≡ false = (λ t. contradicts (f.2 t) (g.2 t)) ∙ none in
          agrees a b fine (record { key = sym key; version = sym version })

      other_in : In first.other r.front ⊎ In first.other (first.clash ∷ r.back) → In first.other r.front
      other_in (inl h) = h
      other_in (inr (inl e)) = absurd (let bad = first.contradict in cc (sym bad ∙ (λ i. contradicts (placed_at l image first.clash) (placed_at l image (e i))) ∙ no_contradiction (placed_at l image first.clash) (placed_at l image first.clash) refl refl))
      other_in (inr (inr h)) = absurd (let up = back_above first.clash r.front r.back rising first.other h in let low = first.in_front in let word = first.word in omega (arith, up, low, word))

      any : list_any (contradicts (placed_at l image first.clash)) (entries_at l image r.front) ≡ true
      any = any_in (contradicts (placed_at l image first.clash)) (entries_at l image r.front) (placed_at l image first.other)
          (map_in (placed_at l image) r.front first.other (other_in (in_either first.other r.front (first.clash ∷ r.back) (subst (In first.other) r.is (there first.other first.other_there))))) first.contradict

      found : clash_after [] (entries_at l image fs) ≡ Some (placed_at l image first.clash)
      found = ap (λ ys. clash_after [] (entries_at l image ys)) r.is ∙ ap (clash_after []) (map-append (placed_at l image) r.front (first.clash ∷ r.back))
          ∙ clash_at [] (entries_at l image r.front) (entries_at l image r.back) (placed_at l image first.clash) agree any
