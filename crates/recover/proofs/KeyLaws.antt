-- Entries by their names: what the entries of one key more change.
use Rattle.std.proofs.Common.{◌≡◌, ◌⊎◌, ltb, take-add, inl, inr, ℕ, zero, suc, ◌+◌, ◌-◌, ◌<◌, ◌≤◌, ◌==◌, ◌&&◌, Bool, true, false, cond, List, [], ◌∷◌, ◌++◌, length, get_or, take, drop, map, Option, Some, None, refl, sym, ◌∙◌, ap, subst, arith}
use Rattle.std.specs.Prelude.{find, option_map}
use Rattle.std.specs.List.{AllByRecursion}
use Rattle.std.proofs.lemmas.Bool.{eqb-true, eq-eqb, ne_eqb, le-ltb, lt-ltb, ltb-true, ltb-false, and_parts}
use Rattle.std.proofs.lemmas.List.{map-append, get_or-take, get_or-drop, get_or-map, length-map, length-take-le, length-drop}
use Rattle.chunk_map.specs.declared.layouts.Geometry.{Geometry}
use Rattle.store_image.specs.declared.types.PlacedEntry.{PlacedEntry}
use Rattle.store_image.specs.Facts.{In}
use Rattle.store_image.specs.Winners.{better, winner_in}
use Rattle.store_image.proofs.Clients.{winner_is}
use Rattle.core_index.specs.Records.{standing_at, standing_with, untold}
use Rattle.recover.specs.declared.found_entries.Found.{Found}
use Rattle.recover.specs.declared.key_runs.KeyRun.{KeyRun}
use Rattle.recover.specs.FoundEntries.{placed_at, entries_at, core_at, AreInOrder}
use Rattle.recover.specs.KeyRuns.{IsRun}
use Rattle.recover.specs.Standing.{standee_at}
use Rattle.recover.specs.Starts.{named_in}
use Rattle.recover.proofs.FoundEntryLaws.{in_order}
use Rattle.recover.proofs.ListLaws.{or_else, or_none, found_in}
use Rattle.recover.proofs.NameLaws.{keys_rise, in_at, any_default}

-- no entry of the list has the key
abbrev pub LacksKey : ℕ → List PlacedEntry → Type 0
LacksKey k es = (y : PlacedEntry) → In y es → y.entry.key ≡ k → ⊥

-- each has it
abbrev pub HaveKey : ℕ → List PlacedEntry → Type 0
HaveKey k es = (y : PlacedEntry) → In y es → y.entry.key ≡ k

none_wins : (k : ℕ) (es : List PlacedEntry) → LacksKey k es → winner_in k es ≡ None
none_wins k es none = by (winner_in k es) refl where
  by : (o : Option PlacedEntry) → winner_in k es ≡ o → winner_in k es ≡ None
  by None e = e
  by (Some y) e = let r = winner_is k es y e in absurd (none y r.0 r.1)

pub winner_behind : (k : ℕ) (es xs : List PlacedEntry) → LacksKey k es → winner_in k (es ++ xs) ≡ winner_in k xs
winner_behind k [] xs none = refl
winner_behind k (y ∷ es) xs none = ap (λ b. cond b (Some (better y (winner_in k (es ++ xs)))) (winner_in k (es ++ xs))) (ne_eqb y.entry.key k (none y (inl refl))) ∙ winner_behind k es xs (λ z h. none z (inr h))

pub winner_front : (k : ℕ) (es xs : List PlacedEntry) → LacksKey k xs → winner_in k (es ++ xs) ≡ winner_in k es
winner_front k [] xs none = none_wins k xs none
winner_front k (y ∷ es) xs none = ap (λ o. cond (y.entry.key == k) (Some (better y o)) o) (winner_front k es xs none)

abbrev is_named : ℕ → ℕ → PlacedEntry → Bool
is_named k v x = x.entry.key == k && x.entry.version == v

find_append : {X : Type 0} (p : X → Bool) (xs ys : List X) → find p (xs ++ ys) ≡ or_else (find p xs) (find p ys)
find_append p [] ys = refl
find_append p (x ∷ xs) ys = elim (p x) as (λ b. cond b (Some x) (find p (xs ++ ys)) ≡ or_else (cond b (Some x) (find p xs)) (find p ys)) [
  | true ↦ refl
  | false ↦ find_append p xs ys
]

none_named : (k v : ℕ) (es : List PlacedEntry) → LacksKey k es → named_in k v es ≡ None
none_named k v es none = by (named_in k v es) refl where
  by : (o : Option PlacedEntry) → named_in k v es ≡ o → named_in k v es ≡ None
  by None e = e
  by (Some y) e = let r = found_in (is_named k v) es y e in absurd (none y r.0 (eqb-true y.entry.key k (and_parts (y.entry.key == k) (y.entry.version == v) r.1).0))

pub named_behind : (k v : ℕ) (es xs : List PlacedEntry) → LacksKey k es → named_in k v (es ++ xs) ≡ named_in k v xs
named_behind k v es xs none = find_append (is_named k v) es xs ∙ ap (λ o. or_else o (named_in k v xs)) (none_named k v es none)

pub named_front : (k v : ℕ) (es xs : List PlacedEntry) → LacksKey k xs → named_in k v (es ++ xs) ≡ named_in k v es
named_front k v es xs none = find_append (is_named k v) es xs ∙ ap (or_else (named_in k v es)) (none_named k v xs none) ∙ or_none (named_in k v es)

-- what is in a list that was mapped
pub in_map : {X Y : Type 0} (f : X → Y) (xs : List X) (y : Y) → In y (map f xs) → (x : X) × In x xs × (y ≡ f x)
in_map f [] y h = absurd h
in_map f (x ∷ xs) y (inl e) = (x, inl refl, e)
in_map f (x ∷ xs) y (inr h) = let r = in_map f xs y h in (r.0, inr r.1, r.2)

-- a fact of each by its place
pub all_from : {X : Type 0} (P : X → Type 0) (xs : List X) → ((i : ℕ) (d : X) → i < length xs → P (get_or xs i d)) → AllByRecursion P xs
all_from P [] each = tt
all_from P (x ∷ xs) each = (each zero x (omega arith), all_from P xs (λ i d lt. each (suc i) d (omega (arith, lt))))

module _ (l : Geometry) (image : ℕ → ℕ) where
  -- of entries of one key the first of the greatest version wins
  stays : (x : PlacedEntry) (o : Option PlacedEntry) → ((y : PlacedEntry) → o ≡ Some y → y.entry.version ≤ x.entry.version) → better x o ≡ x
  stays x None top = refl
  stays x (Some y) top = ap (λ b. cond b y x) (le-ltb x.entry.version y.entry.version (top y refl))

  pub winner_at : (k : ℕ) (fs : List Found) (w : ℕ) → w < length fs → ((i : ℕ) (d : Found) → i < length fs → (get_or fs i d).key ≡ k)
      → ((i : ℕ) (d : Found) → i < w → (get_or fs i d).version < (get_or fs w d).version) → ((i : ℕ) (d : Found) → w ≤ i → i < length fs → (get_or fs i d).version ≤ (get_or fs w d).version)
      → (d : Found) → winner_in k (entries_at l image fs) ≡ Some (placed_at l image (get_or fs w d))
  winner_at k [] w lt own first rest d = absurd (omega (arith, lt))
  winner_at k (f ∷ fs) zero lt own first rest d =
      let x = placed_at l image f in
      let es = entries_at l image fs in
      ap (λ b. cond b (Some (better x (winner_in k es))) (winner_in k es)) (eq-eqb f.key k (own zero d (omega arith)))
      ∙ ap Some (stays x (winner_in k es) (λ y won.
      let is = winner_is k es y won in
      let r = in_map (placed_at l image) fs y is.0 in
      let at = in_at r.0 fs r.1 in
      let low = at.1 in
      subst (λ (n : ℕ). n ≤ f.version) ((λ t. (at.2 f t).version) ∙ (λ t. (sym r.2 t).entry.version)) (rest (suc at.0) f (omega arith) (omega (arith, low)))))
  winner_at k (f ∷ fs) (suc w) lt own first rest d =
      let x = placed_at l image f in
      let es = entries_at l image fs in
      let won : winner_in k es ≡ Some (placed_at l image (get_or fs w d)) = winner_at k fs w (omega (arith, lt)) (λ i e l. own (suc i) e (omega (arith, l))) (λ i e l. first (suc i) e (omega (arith, l))) (λ i e low high. rest (suc i) e (omega (arith, low)) (omega (arith, high))) d in
      ap (λ b. cond b (Some (better x (winner_in k es))) (winner_in k es)) (eq-eqb f.key k (own zero d (omega arith)))
      ∙ ap (λ o. Some (better x o)) won
      ∙ ap (λ b. Some (cond b (placed_at l image (get_or fs w d)) x)) (lt-ltb f.version (get_or fs w d).version (first zero d (omega arith)))

  -- and all of them stand
  pub stand_all : (k v : ℕ) (fs : List Found) → AllByRecursion (λ f. f.key ≡ k) fs → standing_at (map untold (map (standee_at l) fs)) v ≡ option_map (λ (x : PlacedEntry). standing_with v x.core false) (named_in k v (entries_at l image fs))
  stand_all k v [] own = refl
  stand_all k v (f ∷ fs) own =
      let x = placed_at l image f in
      elim (f.version == v) as (λ b. (f.version == v) ≡ b → cond b (Some (untold (standee_at l f))) (standing_at (map untold (map (standee_at l) fs)) v)
      ≡ option_map (λ (x : PlacedEntry). standing_with v x.core false) (cond (f.key == k && b) (Some x) (named_in k v (entries_at l image fs)))) [
        | true ↦ λ e. ap (λ (n : ℕ). Some (standing_with n (core_at l f.at) false)) (eqb-true f.version v e)
            ∙ sym (ap (λ b. option_map (λ (x : PlacedEntry). standing_with v x.core false) (cond (b && true) (Some x) (named_in k v (entries_at l image fs)))) (eq-eqb f.key k own.0))
        | false ↦ λ e. stand_all k v fs own.1
            ∙ sym (ap (λ b. option_map (λ (x : PlacedEntry). standing_with v x.core false) (cond (b && false) (Some x) (named_in k v (entries_at l image fs)))) (eq-eqb f.key k own.0))
      ] refl

-- no entry in front of a place has the key that stands there
abbrev pub IsNewKey : List Found → ℕ → Type 0
IsNewKey fs at = (i : ℕ) (d : Found) → i < at → at < length fs → (get_or fs i d).key ≡ (get_or fs at d).key → ⊥

-- the entries of a run
abbrev pub run_of : List Found → ℕ → KeyRun → List Found
run_of fs at r = take (r.end - at) (drop at fs)

module _ (fs : List Found) (rising : AreInOrder fs) where
  -- found entries stand by rising key
  abbrev some_layout : Geometry
  some_layout = record { cores = 0; group = 0; chunks = 0; chunk_bytes = 0 }

  found_rise : (i j : ℕ) (d : Found) → i ≤ j → j < length fs → (get_or fs i d).key ≤ (get_or fs j d).key
  found_rise i j d le lt =
      let place = placed_at some_layout (λ w. w) in
      let n = length-map fs place in
      let one = get_or-map place fs i d (place d) (omega (arith, le, lt)) in
      let other = get_or-map place fs j d (place d) lt in
      let less = keys_rise (map place fs) (in_order some_layout (λ w. w) fs rising) i j (place d) le (omega (arith, n, lt)) in
      subst (λ (m : ℕ). m ≤ (get_or fs j d).key) (λ t. (one t).entry.key) (subst (λ (m : ℕ). (get_or (map place fs) i (place d)).entry.key ≤ m) (λ t. (other t).entry.key) less)

  module _ (at : ℕ) (r : KeyRun) (run : IsRun fs at r) where
    -- the next key is a new one
    pub new_key : IsNewKey fs r.end
    new_key i d less lt same =
        let w = run.high in
        let a = run.low in
        let here : at < length fs = omega (arith, w, a, lt) in
        let low = found_rise i (r.end - 1) d (omega (arith, less)) (omega (arith, lt)) in
        let last = run.same (r.end - 1) d (omega (arith, w, a)) (omega (arith, w)) in
        let high = found_rise (r.end - 1) r.end d (omega arith) lt in
        run.other d lt (omega (arith, low, last, high, same))

  -- the first key is new
  pub first_key : IsNewKey fs 0
  first_key i d less lt same = omega (arith, less)

module _ (fs : List Found) (at : ℕ) (r : KeyRun) (run : IsRun fs at r) (x : Found) (here : x ≡ get_or fs r.winner x) where
  long : length (run_of fs at r) ≡ r.end - at
  long =
      let e = run.end in
      let n = length-drop at fs in
      length-take-le (r.end - at) (drop at fs) (omega (arith, e, n))

  at_run : (i : ℕ) (d : Found) → i < length (run_of fs at r) → get_or (run_of fs at r) i d ≡ get_or fs (at + i) d
  at_run i d lt = let n = long in get_or-take (r.end - at) (drop at fs) i d (omega (arith, lt, n)) ∙ get_or-drop at fs i d

  -- the winner
  is_winner : (e : Found) → get_or fs r.winner e ≡ x
  is_winner e =
      let h = run.high in
      let t = run.end in
      any_default fs r.winner e x (omega (arith, h, t)) ∙ sym here

  same_key : (i : ℕ) (e : Found) → at ≤ i → i < r.end → (get_or fs i e).key ≡ x.key
  same_key i e low high = run.same i e low high ∙ sym (run.same r.winner e run.low run.high) ∙ ap (λ (f : Found). f.key) (is_winner e)

  no_later : (i : ℕ) (e : Found) → at ≤ i → i < r.end → (get_or fs i e).version ≤ x.version
  no_later i e low high = subst (λ (f : Found). (get_or fs i e).version ≤ f.version) (is_winner e) (by (cases_le r.winner i)) where
    by : (r.winner ≤ i) ⊎ (i < r.winner) → (get_or fs i e).version ≤ (get_or fs r.winner e).version
    by (inl le) = let same = run.newest i e le high in omega (arith, same)
    by (inr lt) = let less = run.first i e low lt in omega (arith, less)

    cases_le : (a b : ℕ) → (a ≤ b) ⊎ (b < a)
    cases_le a b = elim (ltb b a) as (λ t. ltb b a ≡ t → (a ≤ b) ⊎ (b < a)) [
      | true ↦ λ t. inr (ltb-true b a t)
      | false ↦ λ t. inl (ltb-false b a t)
    ] refl

  key_at : (i : ℕ) (e : Found) → i < length (run_of fs at r) → (get_or (run_of fs at r) i e).key ≡ x.key
  key_at i e lt = let n = long in ap (λ (f : Found). f.key) (at_run i e lt) ∙ same_key (at + i) e (omega arith) (omega (arith, lt, n))

  version_at : (i : ℕ) (e : Found) → i < length (run_of fs at r) → (get_or (run_of fs at r) i e).version ≤ x.version
  version_at i e lt = let n = long in subst (λ (f : Found). f.version ≤ x.version) (sym (at_run i e lt)) (no_later (at + i) e (omega arith) (omega (arith, lt, n)))

  pub run_keys : AllByRecursion (λ f. f.key ≡ x.key) (run_of fs at r)
  run_keys = all_from (λ f. f.key ≡ x.key) (run_of fs at r) key_at

  pub run_below : AllByRecursion (λ f. f.version ≤ x.version) (run_of fs at r)
  run_below = all_from (λ f. f.version ≤ x.version) (run_of fs at r) version_at

  -- where the winner stands in the run
  abbrev place : ℕ
  place = r.winner - at

  within : place < length (run_of fs at r)
  within =
      let n = long in
      let h = run.high in
      let w = run.low in
      omega (arith, n, h, w)

  winner_there : (e : Found) → get_or (run_of fs at r) place e ≡ x
  winner_there e =
      let w = run.low in
      let back : at + place ≡ r.winner = omega (arith, w) in
      at_run place e within ∙ ap (λ n. get_or fs n e) back ∙ is_winner e

  earlier : (i : ℕ) (e : Found) → i < place → (get_or (run_of fs at r) i e).version < (get_or (run_of fs at r) place e).version
  earlier i e lt =
      let w = run.low in
      let m = within in
      let less : (get_or fs (at + i) e).version < (get_or fs r.winner e).version = run.first (at + i) e (omega arith) (omega (arith, lt, w)) in
      subst (λ (f : Found). f.version < (get_or (run_of fs at r) place e).version) (sym (at_run i e (omega (arith, lt, m))))
      (subst (λ (f : Found). (get_or fs (at + i) e).version < f.version) (is_winner e ∙ sym (winner_there e)) less)

  later : (i : ℕ) (e : Found) → place ≤ i → i < length (run_of fs at r) → (get_or (run_of fs at r) i e).version ≤ (get_or (run_of fs at r) place e).version
  later i e low high = subst (λ (f : Found). (get_or (run_of fs at r) i e).version ≤ f.version) (sym (winner_there e)) (version_at i e high)

  module _ (l : Geometry) (image : ℕ → ℕ) where
    pub run_wins : winner_in x.key (entries_at l image (run_of fs at r)) ≡ Some (placed_at l image x)
    run_wins = winner_at l image x.key (run_of fs at r) place within key_at earlier later x ∙ ap (λ f. Some (placed_at l image f)) (winner_there x)

    pub have_key : HaveKey x.key (entries_at l image (run_of fs at r))
    have_key y h =
        let m = in_map (placed_at l image) (run_of fs at r) y h in
        let p = in_at m.0 (run_of fs at r) m.1 in
        ap (λ (z : PlacedEntry). z.entry.key) m.2 ∙ sym (ap (λ (f : Found). f.key) (p.2 x)) ∙ key_at p.0 x p.1

    pub lacks_key : IsNewKey fs at → LacksKey x.key (entries_at l image (take at fs))
    lacks_key fresh y h same =
        let m = in_map (placed_at l image) (take at fs) y h in
        let p = in_at m.0 (take at fs) m.1 in
        let w = run.low in
        let g = run.high in
        let e = run.end in
        let n = length-take-le at fs (omega (arith, w, g, e)) in
        let low = p.1 in
        let less : p.0 < at = omega (arith, low, n) in
        let is : get_or fs p.0 x ≡ m.0 = sym (get_or-take at fs p.0 x less) ∙ p.2 x in
        fresh p.0 x less (omega (arith, w, g, e)) (ap (λ (f : Found). f.key) is ∙ sym (ap (λ (z : PlacedEntry). z.entry.key) m.2) ∙ same ∙ sym (same_key at x (omega arith) (omega (arith, w, g))))

    pub split_run : entries_at l image (take r.end fs) ≡ entries_at l image (take at fs) ++ entries_at l image (run_of fs at r)
    split_run =
        let w = run.low in
        let g = run.high in
        let sum : r.end ≡ at + (r.end - at) = omega (arith, w, g) in
        ap (λ n. entries_at l image (take n fs)) sum ∙ ap (entries_at l image) (take-add at (r.end - at) fs) ∙ map-append (placed_at l image) (take at fs) (run_of fs at r)
