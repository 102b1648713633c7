-- Entries by rising version, some of which are gone.
use Rattle.std.proofs.Common.{◌≡◌, ◌≢◌, ⊎_elim, ℕ, zero, suc, ◌+◌, ◌-◌, ◌<◌, ◌≤◌, ◌==◌, nat_lt, Bool, true, false, cond, ◌&&◌, ◌||◌, not, List, [], ◌∷◌, ◌++◌, length, get_or, take, drop, drop-cons, add-one, map, Option, Some, None, refl, sym, ◌∙◌, ap, subst, arith, slice_set}
use Rattle.std.specs.Prelude.{is_some}
use Rattle.std.specs.List.{AllByRecursion, filter}
use Rattle.std.specs.List.Sorted.{IsNonDecreasingBy, IsStrictlySortedBy}
use Rattle.std.specs.Map.{keys_of}
use Rattle.std.specs.BTreeMap.{insert_entry}
use Rattle.std.specs.Ordering.{nat_cmp, match_ordering}
use Rattle.std.specs.declared.cmp.Ordering.{Ordering}
use Rattle.std.specs.declared.cmp.Ordering.TheVariants.{Less, Equal, Greater}
use Rattle.std.proofs.lemmas.Bool.{eqb-true, eqb-false, eq-eqb, ne_eqb, le-ltb, cond-true, cond-false, cases_eq, cases_lt}
use Rattle.std.proofs.lemmas.Map.Keys.{sorted_head, sorted_tail}
use Rattle.std.proofs.lemmas.List.{take_more, length-append}
use Rattle.core_index.specs.declared.types.Marked.{Marked}
use Rattle.core_index.specs.declared.types.Standee.{Standee}
use Rattle.core_index.specs.declared.types.StandingEntry.{StandingEntry}
use Rattle.core_index.specs.Records.{list_of, standing_with, standing_at, stands_alone, with_told, others, homes_of, untold_at, by_version, untold}
use Rattle.core_index.specs.Marks.{kept, marked, mark_of, Rises, IsAbsent, AreMarks}
use Rattle.core_index.specs.Pairs.{top_by}

-- an element behind another is greater
above_at : (w : ℕ) (ms : List Marked) (j : ℕ) (d : Marked) → AllByRecursion (λ (x : Marked). w < x.entry.version) ms → j < length ms → w < (get_or ms j d).entry.version
above_at w [] j d all lt = absurd (omega (arith, lt))
above_at w (m ∷ ms) zero d all lt = all.0
above_at w (m ∷ ms) (suc j) d all lt = above_at w ms j d all.1 (omega (arith, lt))

rises_pair : (ms : List Marked) (i j : ℕ) (d : Marked) → Rises ms → i < j → j < length ms → (get_or ms i d).entry.version < (get_or ms j d).entry.version
rises_pair [] i j d rises lt within = absurd (omega (arith, within))
rises_pair (m ∷ ms) i zero d rises lt within = absurd (omega (arith, lt))
rises_pair (m ∷ ms) zero (suc j) d rises lt within = above_at m.entry.version ms j d rises.0 (omega (arith, within))
rises_pair (m ∷ ms) (suc i) (suc j) d rises lt within = rises_pair ms i j d rises.1 (omega (arith, lt)) (omega (arith, within))

pub never_falls : (ms : List Marked) → Rises ms → IsNonDecreasingBy (λ (m : Marked). m.entry.version) ms
never_falls ms rises = λ i j d le within. ⊎_elim
    (λ (same : i ≡ j). let e = ap (λ (n : ℕ). (get_or ms n d).entry.version) same in omega (arith, e))
    (λ (ne : i ≢ j). ⊎_elim (λ (lt : i < j). let less = rises_pair ms i j d rises lt within in omega (arith, less)) (λ (ge : j ≤ i). absurd (ne (omega (arith, le, ge)))) (cases_lt i j))
    (cases_eq i j)

pub all_from : (P : Marked → Type 0) (ms : List Marked) → ((k : ℕ) (d : Marked) → k < length ms → P (get_or ms k d)) → AllByRecursion P ms
all_from P [] each = tt
all_from P (m ∷ ms) each = (each 0 m (omega arith), all_from P ms (λ k d lt. each (suc k) d (omega (arith, lt))))

-- every version before a place is less, and from it on none is
pub absent_from : (ms : List Marked) (v at : ℕ) → Rises ms → ((k : ℕ) (d : Marked) → k < at → (get_or ms k d).entry.version < v) → ((k : ℕ) (d : Marked) → at ≤ k → k < length ms → v ≤ (get_or ms k d).entry.version) → (at < length ms → (d : Marked) → (get_or ms at d).entry.version ≢ v) → IsAbsent ms v
absent_from ms v at rises less more ne = all_from (λ (m : Marked). m.entry.version ≢ v) ms (λ k d within e. ⊎_elim
    (λ (lt : k < at). let is = less k d lt in absurd (omega (arith, is, e)))
    (λ (ge : at ≤ k). ⊎_elim
    (λ (same : k ≡ at). ne (subst (λ (n : ℕ). n < length ms) same within) d (ap (λ (n : ℕ). (get_or ms n d).entry.version) (sym same) ∙ e))
    (λ (other : k ≢ at). ⊎_elim
    (λ (lt : at < k). let first = more at d (omega arith) (omega (arith, lt, within)) in let is = rises_pair ms at k d rises lt within in absurd (omega (arith, first, is, e)))
    (λ (le : k ≤ at). absurd (other (omega (arith, le, ge))))
    (cases_lt at k))
    (cases_eq k at))
    (cases_lt k at))

-- What a list without a version does.

abbrev Lacks : ℕ → List StandingEntry → Type 0
Lacks v ss = AllByRecursion (λ (s : StandingEntry). s.version ≢ v) ss

kept_lacks : (ms : List Marked) (v : ℕ) → IsAbsent ms v → Lacks v (kept ms)
kept_lacks [] v absent = tt
kept_lacks (m ∷ ms) v absent = elim m.gone as (λ b. Lacks v (cond b (kept ms) (m.entry ∷ kept ms))) [ true ↦ kept_lacks ms v absent.1 | false ↦ (absent.0, kept_lacks ms v absent.1) ]

lacks_at : (ss : List StandingEntry) (v : ℕ) → Lacks v ss → standing_at ss v ≡ None
lacks_at [] v lacks = refl
lacks_at (s ∷ ss) v lacks = cond-false (s.version == v) (Some s) (standing_at ss v) (ne_eqb s.version v lacks.0) ∙ lacks_at ss v lacks.1

lacks_told : (ss : List StandingEntry) (v : ℕ) → Lacks v ss → with_told ss v ≡ ss
lacks_told [] v lacks = refl
lacks_told (s ∷ ss) v lacks = cond-false (s.version == v) (standing_with s.version s.home true ∷ ss) (s ∷ with_told ss v) (ne_eqb s.version v lacks.0) ∙ ap (λ (xs : List StandingEntry). s ∷ xs) (lacks_told ss v lacks.1)

lacks_others : (ss : List StandingEntry) (v : ℕ) → Lacks v ss → others v ss ≡ ss
lacks_others [] v lacks = refl
lacks_others (s ∷ ss) v lacks = ap (λ (b : Bool). cond (not b) (s ∷ others v ss) (others v ss)) (ne_eqb s.version v lacks.0) ∙ ap (λ (xs : List StandingEntry). s ∷ xs) (lacks_others ss v lacks.1)

pub absent_at : (ms : List Marked) (v : ℕ) → IsAbsent ms v → standing_at (kept ms) v ≡ None
absent_at ms v absent = lacks_at (kept ms) v (kept_lacks ms v absent)

pub absent_told : (ms : List Marked) (v : ℕ) → IsAbsent ms v → with_told (kept ms) v ≡ kept ms
absent_told ms v absent = lacks_told (kept ms) v (kept_lacks ms v absent)

pub absent_others : (ms : List Marked) (v : ℕ) → IsAbsent ms v → others v (kept ms) ≡ kept ms
absent_others ms v absent = lacks_others (kept ms) v (kept_lacks ms v absent)

-- a version that is the first one is not behind it
behind : (w v : ℕ) (ms : List Marked) → AllByRecursion (λ (x : Marked). w < x.entry.version) ms → w ≡ v → IsAbsent ms v
behind w v [] all same = tt
behind w v (m ∷ ms) all same = ((λ e. let lt = all.0 in absurd (omega (arith, lt, e, same))), behind w v ms all.1 same)

-- What a place of a version says of it.

pub kept_at : (ms : List Marked) (v i : ℕ) (d : Marked) → Rises ms → i < length ms → (get_or ms i d).entry.version ≡ v → standing_at (kept ms) v ≡ cond (get_or ms i d).gone None (Some (get_or ms i d).entry)
kept_at [] v i d rises lt is = absurd (omega (arith, lt))
kept_at (m ∷ ms) v zero d rises lt is = elim m.gone as (λ b. standing_at (cond b (kept ms) (m.entry ∷ kept ms)) v ≡ cond b None (Some m.entry)) [
  | true ↦ absent_at ms v (behind m.entry.version v ms rises.0 is)
  | false ↦ cond-true (m.entry.version == v) (Some m.entry) (standing_at (kept ms) v) (eq-eqb m.entry.version v is)
]
kept_at (m ∷ ms) v (suc i) d rises lt is =
    let rest = kept_at ms v i d rises.1 (omega (arith, lt)) is in
    let less = above_at m.entry.version ms i d rises.0 (omega (arith, lt)) in
    let isnt = ne_eqb m.entry.version v (λ e. omega (arith, e, is, less)) in
    elim m.gone as (λ b. standing_at (cond b (kept ms) (m.entry ∷ kept ms)) v ≡ cond (get_or ms i d).gone None (Some (get_or ms i d).entry)) [
      | true ↦ rest
      | false ↦ cond-false (m.entry.version == v) (Some m.entry) (standing_at (kept ms) v) isnt ∙ rest
    ]

abbrev pub told_mark : Marked → Marked
told_mark m = record { entry = standing_with m.entry.version m.entry.home true; gone = m.gone }

abbrev pub gone_mark : Marked → Marked
gone_mark m = record { entry = m.entry; gone = true }

pub told_kept : (ms : List Marked) (v i : ℕ) (d : Marked) → Rises ms → i < length ms → (get_or ms i d).entry.version ≡ v → kept (slice_set ms i (told_mark (get_or ms i d))) ≡ with_told (kept ms) v
told_kept [] v i d rises lt is = absurd (omega (arith, lt))
told_kept (m ∷ ms) v zero d rises lt is = elim m.gone as (λ b. cond b (kept ms) (standing_with m.entry.version m.entry.home true ∷ kept ms) ≡ with_told (cond b (kept ms) (m.entry ∷ kept ms)) v) [
  | true ↦ sym (absent_told ms v (behind m.entry.version v ms rises.0 is))
  | false ↦ sym (cond-true (m.entry.version == v) (standing_with m.entry.version m.entry.home true ∷ kept ms) (m.entry ∷ with_told (kept ms) v) (eq-eqb m.entry.version v is))
]
told_kept (m ∷ ms) v (suc i) d rises lt is =
    let rest = told_kept ms v i d rises.1 (omega (arith, lt)) is in
    let less = above_at m.entry.version ms i d rises.0 (omega (arith, lt)) in
    let isnt = ne_eqb m.entry.version v (λ e. omega (arith, e, is, less)) in
    let new = kept (slice_set ms i (told_mark (get_or ms i d))) in
    elim m.gone as (λ b. cond b new (m.entry ∷ new) ≡ with_told (cond b (kept ms) (m.entry ∷ kept ms)) v) [
      | true ↦ rest
      | false ↦ ap (λ (xs : List StandingEntry). m.entry ∷ xs) rest ∙ sym (cond-false (m.entry.version == v) (standing_with m.entry.version m.entry.home true ∷ kept ms) (m.entry ∷ with_told (kept ms) v) isnt)
    ]

pub gone_kept : (ms : List Marked) (v i : ℕ) (d : Marked) → Rises ms → i < length ms → (get_or ms i d).entry.version ≡ v → kept (slice_set ms i (gone_mark (get_or ms i d))) ≡ others v (kept ms)
gone_kept [] v i d rises lt is = absurd (omega (arith, lt))
gone_kept (m ∷ ms) v zero d rises lt is =
    let none = sym (absent_others ms v (behind m.entry.version v ms rises.0 is)) in
    elim m.gone as (λ b. kept ms ≡ others v (cond b (kept ms) (m.entry ∷ kept ms))) [
      | true ↦ none
      | false ↦ none ∙ sym (ap (λ (b : Bool). cond (not b) (m.entry ∷ others v (kept ms)) (others v (kept ms))) (eq-eqb m.entry.version v is))
    ]
gone_kept (m ∷ ms) v (suc i) d rises lt is =
    let rest = gone_kept ms v i d rises.1 (omega (arith, lt)) is in
    let less = above_at m.entry.version ms i d rises.0 (omega (arith, lt)) in
    let isnt = ne_eqb m.entry.version v (λ e. omega (arith, e, is, less)) in
    let new = kept (slice_set ms i (gone_mark (get_or ms i d))) in
    elim m.gone as (λ b. cond b new (m.entry ∷ new) ≡ others v (cond b (kept ms) (m.entry ∷ kept ms))) [
      | true ↦ rest
      | false ↦ ap (λ (xs : List StandingEntry). m.entry ∷ xs) rest ∙ sym (ap (λ (b : Bool). cond (not b) (m.entry ∷ others v (kept ms)) (others v (kept ms))) isnt)
    ]

pub gone_already : (ms : List Marked) (v i : ℕ) (d : Marked) → Rises ms → i < length ms → (get_or ms i d).entry.version ≡ v → (get_or ms i d).gone ≡ true → kept ms ≡ others v (kept ms)
gone_already ms v i d rises lt is gone = same ms i rises lt is gone ∙ gone_kept ms v i d rises lt is where
  same : (xs : List Marked) (k : ℕ) → Rises xs → k < length xs → (get_or xs k d).entry.version ≡ v → (get_or xs k d).gone ≡ true → kept xs ≡ kept (slice_set xs k (gone_mark (get_or xs k d)))
  same [] k rises lt is gone = refl
  same (m ∷ xs) zero rises lt is gone = cond-true m.gone (kept xs) (m.entry ∷ kept xs) gone
  same (m ∷ xs) (suc k) rises lt is gone = let rest = same xs k rises.1 (omega (arith, lt)) is gone in elim m.gone as (λ b. cond b (kept xs) (m.entry ∷ kept xs) ≡ cond b (kept (slice_set xs k (gone_mark (get_or xs k d)))) (m.entry ∷ kept (slice_set xs k (gone_mark (get_or xs k d))))) [
    | true ↦ rest
    | false ↦ ap (λ (ys : List StandingEntry). m.entry ∷ ys) rest
  ]

pub gone_length : (ms : List Marked) (i : ℕ) (d : Marked) → i < length ms → (get_or ms i d).gone ≡ false → length (kept (slice_set ms i (gone_mark (get_or ms i d)))) + 1 ≡ length (kept ms)
gone_length [] i d lt stood = absurd (omega (arith, lt))
gone_length (m ∷ ms) zero d lt stood = let a = ap length (cond-false m.gone (kept ms) (m.entry ∷ kept ms) stood) in omega (arith, a)
gone_length (m ∷ ms) (suc i) d lt stood =
    let rest = gone_length ms i d (omega (arith, lt)) stood in
    let new = kept (slice_set ms i (gone_mark (get_or ms i d))) in
    elim m.gone as (λ b. length (cond b new (m.entry ∷ new)) + 1 ≡ length (cond b (kept ms) (m.entry ∷ kept ms))) [ true ↦ rest | false ↦ omega (arith, rest) ]

-- What a write that keeps the version leaves.

pub all_set : (P : ℕ → Type 0) (ms : List Marked) (i : ℕ) (n d : Marked) → n.entry.version ≡ (get_or ms i d).entry.version → AllByRecursion (λ (m : Marked). P m.entry.version) ms → AllByRecursion (λ (m : Marked). P m.entry.version) (slice_set ms i n)
all_set P [] i n d same all = tt
all_set P (m ∷ ms) zero n d same all = (subst P (sym same) all.0, all.1)
all_set P (m ∷ ms) (suc i) n d same all = (all.0, all_set P ms i n d same all.1)

pub rises_set : (ms : List Marked) (i : ℕ) (n d : Marked) → n.entry.version ≡ (get_or ms i d).entry.version → Rises ms → Rises (slice_set ms i n)
rises_set [] i n d same rises = tt
rises_set (m ∷ ms) zero n d same rises = (subst (λ (w : ℕ). AllByRecursion (λ (x : Marked). w < x.entry.version) ms) (sym same) rises.0, rises.1)
rises_set (m ∷ ms) (suc i) n d same rises = (all_set (λ (w : ℕ). m.entry.version < w) ms i n d same rises.0, rises_set ms i n d same rises.1)

-- One more at the end.

all_push : (P : Marked → Type 0) (ms : List Marked) (n : Marked) → AllByRecursion P ms → P n → AllByRecursion P (ms ++ n ∷ [])
all_push P [] n all new = (new, tt)
all_push P (m ∷ ms) n all new = (all.0, all_push P ms n all.1 new)

pub kept_push : (ms : List Marked) (v home : ℕ) → kept (ms ++ marked v home ∷ []) ≡ kept ms ++ standing_with v home false ∷ []
kept_push [] v home = refl
kept_push (m ∷ ms) v home = elim m.gone as (λ b. cond b (kept (ms ++ marked v home ∷ [])) (m.entry ∷ kept (ms ++ marked v home ∷ [])) ≡ cond b (kept ms) (m.entry ∷ kept ms) ++ standing_with v home false ∷ []) [
  | true ↦ kept_push ms v home
  | false ↦ ap (λ (xs : List StandingEntry). m.entry ∷ xs) (kept_push ms v home)
]

pub rises_push : (ms : List Marked) (top v home : ℕ) → Rises ms → AllByRecursion (λ (m : Marked). m.entry.version ≤ top) ms → top < v → Rises (ms ++ marked v home ∷ [])
rises_push [] top v home rises below later = (tt, tt)
rises_push (m ∷ ms) top v home rises below later = (all_push (λ (x : Marked). m.entry.version < x.entry.version) ms (marked v home) rises.0 (omega (arith, below.0, later)), rises_push ms top v home rises.1 below.1 later)

pub below_push : (ms : List Marked) (top v home : ℕ) → AllByRecursion (λ (m : Marked). m.entry.version ≤ top) ms → top < v → AllByRecursion (λ (m : Marked). m.entry.version ≤ v) (ms ++ marked v home ∷ [])
below_push [] top v home below later = (omega arith, tt)
below_push (m ∷ ms) top v home below later = (omega (arith, below.0, later), below_push ms top v home below.1 later)

-- Closing up.

abbrev pub closed : List Marked → List Marked
closed ms = filter (λ m. not m.gone) ms

pub kept_closed : (ms : List Marked) → kept (closed ms) ≡ kept ms
kept_closed [] = refl
kept_closed (m ∷ ms) = by (kept_closed ms) m.gone refl where
  by : kept (closed ms) ≡ kept ms → (b : Bool) → m.gone ≡ b → kept (cond (not m.gone) (m ∷ closed ms) (closed ms)) ≡ cond m.gone (kept ms) (m.entry ∷ kept ms)
  by rest true is = ap (λ (b : Bool). kept (cond (not b) (m ∷ closed ms) (closed ms))) is ∙ rest ∙ sym (cond-true m.gone (kept ms) (m.entry ∷ kept ms) is)
  by rest false is = ap (λ (b : Bool). kept (cond (not b) (m ∷ closed ms) (closed ms))) is ∙ cond-false m.gone (kept (closed ms)) (m.entry ∷ kept (closed ms)) is ∙ ap (λ (xs : List StandingEntry). m.entry ∷ xs) rest ∙ sym (cond-false m.gone (kept ms) (m.entry ∷ kept ms) is)

pub all_closed : (P : Marked → Type 0) (ms : List Marked) → AllByRecursion P ms → AllByRecursion P (closed ms)
all_closed P [] all = tt
all_closed P (m ∷ ms) all = elim m.gone as (λ b. AllByRecursion P (cond (not b) (m ∷ closed ms) (closed ms))) [ true ↦ all_closed P ms all.1 | false ↦ (all.0, all_closed P ms all.1) ]

pub rises_closed : (ms : List Marked) → Rises ms → Rises (closed ms)
rises_closed [] rises = tt
rises_closed (m ∷ ms) rises = elim m.gone as (λ b. Rises (cond (not b) (m ∷ closed ms) (closed ms))) [
  | true ↦ rises_closed ms rises.1
  | false ↦ (all_closed (λ (x : Marked). m.entry.version < x.entry.version) ms rises.0, rises_closed ms rises.1)
]

pub closed_length : (ms : List Marked) → length (closed ms) ≤ length ms
closed_length [] = omega arith
closed_length (m ∷ ms) = let rest = closed_length ms in elim m.gone as (λ b. length (cond (not b) (m ∷ closed ms) (closed ms)) ≤ suc (length ms)) [ true ↦ omega (arith, rest) | false ↦ omega (arith, rest) ]

pub closed_marks : (ms : List Marked) (n top : ℕ) → AreMarks ms n top → AreMarks (closed ms) n top
closed_marks ms n top are = record {
  rises = rises_closed ms are.rises;
  below = all_closed (λ (m : Marked). m.entry.version ≤ top) ms are.below;
  count = are.count ∙ ap length (sym (kept_closed ms));
}

-- what is true of every place is true of what stands
pub all_kept : (P : ℕ → Type 0) (ms : List Marked) → AllByRecursion (λ (m : Marked). P m.entry.version) ms → AllByRecursion (λ (s : StandingEntry). P s.version) (kept ms)
all_kept P [] all = tt
all_kept P (m ∷ ms) all = elim m.gone as (λ b. AllByRecursion (λ (s : StandingEntry). P s.version) (cond b (kept ms) (m.entry ∷ kept ms))) [ true ↦ all_kept P ms all.1 | false ↦ (all.0, all_kept P ms all.1) ]

-- A version stands alone where nothing stands, or nothing but it.

abbrev Climbs : List StandingEntry → Type 0
Climbs [] = Unit {0}
Climbs (s ∷ ss) = AllByRecursion (λ (x : StandingEntry). s.version < x.version) ss × Climbs ss

climbs : (ms : List Marked) → Rises ms → Climbs (kept ms)
climbs [] rises = tt
climbs (m ∷ ms) rises = elim m.gone as (λ b. Climbs (cond b (kept ms) (m.entry ∷ kept ms))) [ true ↦ climbs ms rises.1 | false ↦ (all_kept (λ (w : ℕ). m.entry.version < w) ms rises.0, climbs ms rises.1) ]

alone_in : (ss : List StandingEntry) (v : ℕ) → Climbs ss → ((length ss == 0) || ((length ss == 1) && is_some (standing_at ss v))) ≡ stands_alone ss v
alone_in [] v up = refl
alone_in (s ∷ []) v up = elim (s.version == v) as (λ b. is_some (cond b (Some s) None) ≡ (b && true)) [ true ↦ refl | false ↦ refl ]
alone_in (s ∷ x ∷ ss) v up =
    let none : (length (s ∷ x ∷ ss) == 0) ≡ false = ne_eqb (length (s ∷ x ∷ ss)) 0 (λ e. omega (arith, e)) in
    let two : (length (s ∷ x ∷ ss) == 1) ≡ false = ne_eqb (length (s ∷ x ∷ ss)) 1 (λ e. omega (arith, e)) in
    (λ i. none i || (two i && is_some (standing_at (s ∷ x ∷ ss) v))) ∙ sym (by (s.version == v) refl)
  where
    by : (b : Bool) → (s.version == v) ≡ b → ((s.version == v) && ((x.version == v) && stands_alone ss v)) ≡ false
    by false is = ap (λ (b : Bool). b && ((x.version == v) && stands_alone ss v)) is
    by true is =
        let same = eqb-true s.version v is in
        let less = up.0.0 in
        let isnt = ne_eqb x.version v (λ e. omega (arith, e, same, less)) in
        (λ i. is i && (isnt i && stands_alone ss v))

pub alone_kept : (ms : List Marked) (v : ℕ) → Rises ms → ((length (kept ms) == 0) || ((length (kept ms) == 1) && is_some (standing_at (kept ms) v))) ≡ stands_alone (kept ms) v
alone_kept ms v rises = alone_in (kept ms) v (climbs ms rises)

-- The entries of a start.

less_from : (a b : ℕ) → nat_cmp a b ≡ Less → a < b
less_from a b is = ⊎_elim (λ (lt : a < b). lt) (λ (ge : b ≤ a). absurd (isnt (a == b) (sym (cond-false (nat_lt a b) Less (cond (a == b) Equal Greater) (le-ltb a b ge)) ∙ is))) (cases_lt a b) where
  isnt : (c : Bool) → cond c Equal Greater ≡ Less → ⊥
  isnt true e = cc e
  isnt false e = cc e

pub rises_marks : (es : List (ℕ × ℕ)) → IsStrictlySortedBy nat_cmp (keys_of es) → Rises (map mark_of es)
rises_marks [] sorted = tt
rises_marks (e ∷ es) sorted = (first es (sorted_head nat_cmp e.0 (keys_of es) sorted), rises_marks es (sorted_tail nat_cmp e.0 (keys_of es) sorted)) where
  first : (fs : List (ℕ × ℕ)) → AllByRecursion (λ (k : ℕ). nat_cmp e.0 k ≡ Less) (keys_of fs) → AllByRecursion (λ (m : Marked). e.0 < m.entry.version) (map mark_of fs)
  first [] all = tt
  first (f ∷ fs) all = (less_from e.0 f.0 all.0, first fs all.1)

pub kept_marks : (es : List (ℕ × ℕ)) → kept (map mark_of es) ≡ map untold_at es
kept_marks [] = refl
kept_marks (e ∷ es) = ap (λ (xs : List StandingEntry). untold_at e ∷ xs) (kept_marks es)

abbrev Below : ℕ → List (ℕ × ℕ) → Type 0
Below n es = AllByRecursion (λ (e : ℕ × ℕ). e.0 ≤ n) es

below_insert : (n k h : ℕ) (es : List (ℕ × ℕ)) → k ≤ n → Below n es → Below n (insert_entry nat_cmp es k h)
below_insert n k h [] le all = (le, tt)
below_insert n k h (e ∷ es) le all = by (below_insert n k h es le all.1) (nat_cmp k e.0) where
  by : Below n (insert_entry nat_cmp es k h) → (o : Ordering) → Below n (match_ordering o ((k, h) ∷ e ∷ es) ((e.0, h) ∷ es) (e ∷ insert_entry nat_cmp es k h))
  by rest Less = (le, all)
  by rest Equal = all
  by rest Greater = (all.0, rest)

below_homes : (n : ℕ) (ss : List Standee) → AllByRecursion (λ (s : Standee). s.version ≤ n) ss → Below n (homes_of ss)
below_homes n [] all = tt
below_homes n (s ∷ ss) all = below_insert n s.version s.home (homes_of ss) all.0 (below_homes n ss all.1)

pub below_marks : (n : ℕ) (ss : List Standee) → AllByRecursion (λ (s : Standee). s.version ≤ n) ss → AllByRecursion (λ (m : Marked). m.entry.version ≤ n) (map mark_of (homes_of ss))
below_marks n ss all = each (homes_of ss) (below_homes n ss all) where
  each : (es : List (ℕ × ℕ)) → Below n es → AllByRecursion (λ (m : Marked). m.entry.version ≤ n) (map mark_of es)
  each [] all = tt
  each (e ∷ es) all = (all.0, each es all.1)

-- A version's entry at the start is its first one.

either : (older newer rest : Option StandingEntry) (a b : Bool) → (a ≡ true → b ≡ true → ⊥) → cond a older (cond b newer rest) ≡ cond b newer (cond a older rest)
either older newer rest true true ne = absurd (ne refl refl)
either older newer rest true false ne = refl
either older newer rest false b ne = refl

twice : (x older rest : Option StandingEntry) (b : Bool) → cond b x rest ≡ cond b x (cond b older rest)
twice x older rest true = refl
twice x older rest false = refl

at_insert : (es : List (ℕ × ℕ)) (k h v : ℕ) → standing_at (map untold_at (insert_entry nat_cmp es k h)) v ≡ cond (k == v) (Some (standing_with k h false)) (standing_at (map untold_at es) v)
at_insert [] k h v = refl
at_insert (e ∷ es) k h v = by (at_insert es k h v) (nat_lt k e.0) (k == e.0) refl
  where
    by : standing_at (map untold_at (insert_entry nat_cmp es k h)) v ≡ cond (k == v) (Some (standing_with k h false)) (standing_at (map untold_at es) v) → (b c : Bool) → (k == e.0) ≡ c → standing_at (map untold_at (match_ordering (cond b Less (cond c Equal Greater)) ((k, h) ∷ e ∷ es) ((e.0, h) ∷ es) (e ∷ insert_entry nat_cmp es k h))) v ≡ cond (k == v) (Some (standing_with k h false)) (cond (e.0 == v) (Some (untold_at e)) (standing_at (map untold_at es) v))
    by rest true c is = refl
    by rest false true is = subst (λ (w : ℕ). cond (e.0 == v) (Some (standing_with e.0 h false)) (standing_at (map untold_at es) v) ≡ cond (w == v) (Some (standing_with w h false)) (cond (e.0 == v) (Some (untold_at e)) (standing_at (map untold_at es) v))) (sym (eqb-true k e.0 is)) (twice (Some (standing_with e.0 h false)) (Some (untold_at e)) (standing_at (map untold_at es) v) (e.0 == v))
    by rest false false is = ap (λ (o : Option StandingEntry). cond (e.0 == v) (Some (untold_at e)) o) rest
        ∙ either (Some (untold_at e)) (Some (standing_with k h false)) (standing_at (map untold_at es) v) (e.0 == v) (k == v) (λ at here. eqb-false k e.0 is (eqb-true k v here ∙ sym (eqb-true e.0 v at)))

pub opened_at : (ss : List Standee) (v : ℕ) → standing_at (by_version ss) v ≡ standing_at (map untold ss) v
opened_at [] v = refl
opened_at (s ∷ ss) v = at_insert (homes_of ss) s.version s.home v ∙ ap (λ (o : Option StandingEntry). cond (s.version == v) (Some (untold s)) o) (opened_at ss v)

-- one more from behind
pub homes_more : (ss : List Standee) (i : ℕ) (d : Standee) → i < length ss → homes_of (drop i ss) ≡ insert_entry nat_cmp (homes_of (drop (i + 1) ss)) (get_or ss i d).version (get_or ss i d).home
homes_more ss i d lt = ap homes_of (drop-cons ss i d lt) ∙ ap (λ (n : ℕ). insert_entry nat_cmp (homes_of (drop n ss)) (get_or ss i d).version (get_or ss i d).home) (sym (add-one i))

pub below_entries : (n : ℕ) (ss : List Standee) → AllByRecursion (λ (s : Standee). s.version ≤ n) ss → AllByRecursion (λ (s : StandingEntry). s.version ≤ n) (by_version ss)
below_entries n ss all = each (homes_of ss) (below_homes n ss all) where
  each : (es : List (ℕ × ℕ)) → Below n es → AllByRecursion (λ (s : StandingEntry). s.version ≤ n) (map untold_at es)
  each [] all = tt
  each (e ∷ es) all = (all.0, each es all.1)

-- Place by place.

kept_append : (xs ys : List Marked) → kept (xs ++ ys) ≡ kept xs ++ kept ys
kept_append [] ys = refl
kept_append (x ∷ xs) ys = elim x.gone as (λ b. cond b (kept (xs ++ ys)) (x.entry ∷ kept (xs ++ ys)) ≡ cond b (kept xs) (x.entry ∷ kept xs) ++ kept ys) [
  | true ↦ kept_append xs ys
  | false ↦ ap (λ (zs : List StandingEntry). x.entry ∷ zs) (kept_append xs ys)
]

pub kept_more : (ms : List Marked) (i : ℕ) (d : Marked) → i < length ms → kept (take (i + 1) ms) ≡ kept (take i ms) ++ kept (get_or ms i d ∷ [])
kept_more ms i d lt = ap kept (take_more ms i d lt) ∙ kept_append (take i ms) (get_or ms i d ∷ [])

pub kept_short : (ms : List Marked) → length (kept ms) ≤ length ms
kept_short [] = omega arith
kept_short (m ∷ ms) = let rest = kept_short ms in elim m.gone as (λ b. length (cond b (kept ms) (m.entry ∷ kept ms)) ≤ suc (length ms)) [ true ↦ omega (arith, rest) | false ↦ omega (arith, rest) ]

pub marks_count : (es : List (ℕ × ℕ)) → length (kept (map mark_of es)) ≡ length (map mark_of es)
marks_count [] = refl
marks_count (e ∷ es) = ap (λ (n : ℕ). suc n) (marks_count es)

-- What each change of a list keeps true of its fields.

pub pushed_marks : (ms ns : List Marked) (left top v home : ℕ) → AreMarks ms left top → ns ≡ ms ++ marked v home ∷ [] → top < v → AreMarks ns (left + 1) v
pushed_marks ms ns left top v home are is later = subst (λ (xs : List Marked). AreMarks xs (left + 1) v) (sym is) (record {
  rises = rises_push ms top v home are.rises are.below later;
  below = below_push ms top v home are.below later;
  count = let a = ap length (kept_push ms v home) ∙ length-append (kept ms) (standing_with v home false ∷ []) in let n = are.count in omega (arith, a, n);
})

pub told_marks : (ms ns : List Marked) (left top v i : ℕ) (d : Marked) → AreMarks ms left top → i < length ms → (get_or ms i d).entry.version ≡ v → ns ≡ slice_set ms i (told_mark (get_or ms i d)) → AreMarks ns left top
told_marks ms ns left top v i d are lt at is = subst (λ (xs : List Marked). AreMarks xs left top) (sym is) (record {
  rises = rises_set ms i (told_mark (get_or ms i d)) d refl are.rises;
  below = all_set (λ (w : ℕ). w ≤ top) ms i (told_mark (get_or ms i d)) d refl are.below;
  count = are.count ∙ sym (ap length (told_kept ms v i d are.rises lt at) ∙ told_length (kept ms) v);
})
  where
    told_length : (ss : List StandingEntry) (v : ℕ) → length (with_told ss v) ≡ length ss
    told_length [] v = refl
    told_length (s ∷ ss) v = let rest = told_length ss v in elim (s.version == v) as (λ b. length (cond b (standing_with s.version s.home true ∷ ss) (s ∷ with_told ss v)) ≡ suc (length ss)) [ true ↦ refl | false ↦ ap (λ (n : ℕ). suc n) rest ]

pub gone_marks : (ms ns : List Marked) (left top i : ℕ) (d : Marked) → AreMarks ms left top → i < length ms → (get_or ms i d).gone ≡ false → ns ≡ slice_set ms i (gone_mark (get_or ms i d)) → AreMarks ns (left - 1) top
gone_marks ms ns left top i d are lt stood is = subst (λ (xs : List Marked). AreMarks xs (left - 1) top) (sym is) (record {
  rises = rises_set ms i (gone_mark (get_or ms i d)) d refl are.rises;
  below = all_set (λ (w : ℕ). w ≤ top) ms i (gone_mark (get_or ms i d)) d refl are.below;
  count = let a = gone_length ms i d lt stood in let n = are.count in omega (arith, a, n);
})

pub made_marks : (ms : List Marked) (es : List (ℕ × ℕ)) (ss : List Standee) (left top : ℕ) → ms ≡ map mark_of es → es ≡ homes_of ss → IsStrictlySortedBy nat_cmp (keys_of es) → AllByRecursion (λ (s : Standee). s.version ≤ top) ss → left ≡ length ms → AreMarks ms left top
made_marks ms es ss left top is homes sorted below count = subst (λ (xs : List Marked). AreMarks xs left top) (sym is) (record {
  rises = rises_marks es sorted;
  below = subst (λ (fs : List (ℕ × ℕ)). AllByRecursion (λ (m : Marked). m.entry.version ≤ top) (map mark_of fs)) (sym homes) (below_marks top ss below);
  count = count ∙ ap length is ∙ sym (marks_count es);
})

pub alone_from : (ms : List Marked) (left top v : ℕ) (b : Bool) → AreMarks ms left top → b ≡ ((left == 0) || ((left == 1) && is_some (standing_at (kept ms) v))) → b ≡ stands_alone (kept ms) v
alone_from ms left top v b are is = is ∙ ap (λ (n : ℕ). (n == 0) || ((n == 1) && is_some (standing_at (kept ms) v))) are.count ∙ alone_kept ms v are.rises

-- The entries of a pair.

pub pair_below : (a b : Option StandingEntry) (n : ℕ) → AllByRecursion (λ (s : StandingEntry). s.version ≤ n) (list_of a ++ list_of b) → top_by a b ≤ n
pair_below None None n all = omega arith
pair_below (Some s) None n all = all.0
pair_below None (Some t) n all = all.0
pair_below (Some s) (Some t) n all = all.1.0
