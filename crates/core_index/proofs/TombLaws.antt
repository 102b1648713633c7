-- Keys that were deleted before the start, by rising key.
use Rattle.std.proofs.Common.{◌≡◌, ◌≢◌, ◌⊎◌, inl, inr, ⊎_elim, ℕ, zero, suc, ◌+◌, ◌-◌, ◌<◌, ◌≤◌, ◌==◌, Bool, true, false, cond, not, List, [], ◌∷◌, ◌++◌, length, get_or, Option, Some, None, option_map, refl, sym, ◌∙◌, ap, subst, arith, slice_set}
use Rattle.std.specs.List.{AllByRecursion}
use Rattle.std.specs.List.Sorted.{IsNonDecreasingBy}
use Rattle.std.specs.Map.{values_of}
use Rattle.std.specs.BTreeMap.{is_at}
use Rattle.std.specs.Ordering.{nat_cmp}
use Rattle.std.specs.Cmp.{unsigned_tied}
use Rattle.std.proofs.lemmas.List.{length-append}
use Rattle.std.proofs.lemmas.List.Sums.{sum_by-cons}
use Rattle.std.proofs.lemmas.Bool.{eqb-true, eq-eqb, ne_eqb, cond-true, cond-false, cases_eq, cases_lt}
use Rattle.log_entry.specs.declared.entry.EntryName.{EntryName}
use Rattle.core_index.specs.declared.types.Fate.{Fate}
use Rattle.core_index.specs.declared.types.Fate.TheVariants.{Untold, Told, Gone, Moved}
use Rattle.core_index.specs.declared.types.Look.TheVariants as looks
use Rattle.core_index.specs.declared.types.StandingEntry.{StandingEntry}
use Rattle.core_index.specs.declared.types.Tombstone.{Tombstone}
use Rattle.core_index.specs.Records.{KeyRecord, Awaits, Shows, standing_at, standing_with, told_in, without, live_version, count_untold, standing_of}
use Rattle.core_index.specs.Slots.{Place}
use Rattle.core_index.specs.Noted.{name_with}
use Rattle.core_index.specs.Tombs.{tomb_home, tomb_version, Tombs, key_of, left_of, left_by, deleted, IsThere, place_of, tomb_places, found_at, fated, with_fate, AreLess, Rising, IsFirst, IsMissing, AreListed, Ahead, passed_at, bare_tombstone}
use Rattle.core_index.specs.Index.{place_at, known_in, room_in, known_at, room_at, untold_in, untold_of, all_untold, ToldAt, Turns}
use Rattle.core_index.proofs.StepLaws.{apart}

-- a key behind another is greater
above_at : (k : ℕ) (ts : List Tombstone) (j : ℕ) (d : Tombstone) → AllByRecursion (λ (x : Tombstone). k < key_of x) ts → j < length ts → k < key_of (get_or ts j d)
above_at k [] j d all lt = absurd (omega (arith, lt))
above_at k (t ∷ ts) zero d all lt = all.0
above_at k (t ∷ ts) (suc j) d all lt = above_at k ts j d all.1 (omega (arith, lt))

rises_pair : (ts : List Tombstone) (i j : ℕ) (d : Tombstone) → Rising ts → i < j → j < length ts → key_of (get_or ts i d) < key_of (get_or ts j d)
rises_pair [] i j d rises lt within = absurd (omega (arith, within))
rises_pair (t ∷ ts) i zero d rises lt within = absurd (omega (arith, lt))
rises_pair (t ∷ ts) zero (suc j) d rises lt within = above_at (key_of t) ts j d rises.0 (omega (arith, within))
rises_pair (t ∷ ts) (suc i) (suc j) d rises lt within = rises_pair ts i j d rises.1 (omega (arith, lt)) (omega (arith, within))

pub never_falls : (ts : List Tombstone) → Rising ts → IsNonDecreasingBy key_of ts
never_falls ts rises = λ i j d le within. ⊎_elim
    (λ (same : i ≡ j). let e = ap (λ (n : ℕ). key_of (get_or ts n d)) same in omega (arith, e))
    (λ (ne : i ≢ j). ⊎_elim (λ (lt : i < j). let less = rises_pair ts i j d rises lt within in omega (arith, less)) (λ (ge : j ≤ i). absurd (ne (omega (arith, le, ge)))) (cases_lt i j))
    (cases_eq i j)

pub all_from : (P : Tombstone → Type 0) (ts : List Tombstone) → ((k : ℕ) (d : Tombstone) → k < length ts → P (get_or ts k d)) → AllByRecursion P ts
all_from P [] each = tt
all_from P (t ∷ ts) each = (each 0 t (omega arith), all_from P ts (λ k d lt. each (suc k) d (omega (arith, lt))))

pub all_at : (P : Tombstone → Type 0) (ts : List Tombstone) (i : ℕ) (d : Tombstone) → AllByRecursion P ts → i < length ts → P (get_or ts i d)
all_at P [] i d all lt = absurd (omega (arith, lt))
all_at P (t ∷ ts) zero d all lt = all.0
all_at P (t ∷ ts) (suc i) d all lt = all_at P ts i d all.1 (omega (arith, lt))

default_of : (xs : List Tombstone) (i : ℕ) (e d : Tombstone) → i < length xs → get_or xs i e ≡ get_or xs i d
default_of [] i e d lt = absurd (omega (arith, lt))
default_of (x ∷ xs) zero e d lt = refl
default_of (x ∷ xs) (suc i) e d lt = default_of xs i e d (omega (arith, lt))

-- Where the first key is that is not below another.

pub near_first : (ts : List Tombstone) (k at : ℕ) (d : Tombstone) → Rising ts → at < length ts → k ≤ key_of (get_or ts at d) → (0 < at → key_of (get_or ts (at - 1) d) < k) → IsFirst ts k at
near_first ts k at d rises within here before = record {
  within = within;
  less = λ i e lt.
      let last : at - 1 < length ts = omega (arith, within) in
      let top = before (omega (arith, lt)) in
      let same = ap key_of (default_of ts i e d (omega (arith, lt, within))) in
      ⊎_elim
      (λ (at_last : i ≡ at - 1). let is = ap (λ (n : ℕ). key_of (get_or ts n d)) at_last in omega (arith, same, is, top))
      (λ (ne : i ≢ at - 1). ⊎_elim (λ (l : i < at - 1). let pair = rises_pair ts i (at - 1) d rises l last in omega (arith, same, pair, top)) (λ (g : at - 1 ≤ i). absurd (ne (omega (arith, g, lt)))) (cases_lt i (at - 1)))
      (cases_eq i (at - 1));
  first = λ e. let same = ap key_of (default_of ts at e d within) in omega (arith, same, here);
}

-- the key is nowhere if it is not there
pub first_missing : (ts : List Tombstone) (k at : ℕ) → Rising ts → IsFirst ts k at → ((d : Tombstone) → key_of (get_or ts at d) ≢ k) → IsMissing ts k
first_missing ts k at rises is ne = all_from (λ (t : Tombstone). key_of t ≢ k) ts (λ i d within e. ⊎_elim
    (λ (lt : i < at). let less = is.less i d lt in absurd (omega (arith, less, e)))
    (λ (ge : at ≤ i). ⊎_elim
    (λ (same : i ≡ at). ne d (ap (λ (n : ℕ). key_of (get_or ts n d)) (sym same) ∙ e))
    (λ (other : i ≢ at). ⊎_elim
    (λ (lt : at < i). let first = is.first d in let pair = rises_pair ts at i d rises lt within in absurd (omega (arith, first, pair, e)))
    (λ (le : i ≤ at). absurd (other (omega (arith, le, ge))))
    (cases_lt at i))
    (cases_eq i at))
    (cases_lt i at))

-- nor if all keys are less
pub past_missing : (ts : List Tombstone) (k at : ℕ) → length ts ≤ at → ((i : ℕ) (d : Tombstone) → i < at → key_of (get_or ts i d) < k) → IsMissing ts k
past_missing ts k at past less = all_from (λ (t : Tombstone). key_of t ≢ k) ts (λ i d within e. let is = less i d (omega (arith, within, past)) in absurd (omega (arith, is, e)))

-- the last key is above all, so what is above it is above all
pub all_less : (ts : List Tombstone) (k : ℕ) (d : Tombstone) → Rising ts → (0 < length ts → key_of (get_or ts (length ts - 1) d) < k) → AreLess ts k
all_less ts k d rises last = all_from (λ (t : Tombstone). key_of t < k) ts (λ i e lt. less i e lt)
  where
    less : (i : ℕ) (e : Tombstone) → i < length ts → key_of (get_or ts i e) < k
    less i e lt =
        let n = length ts - 1 in
        let within : n < length ts = omega (arith, lt) in
        let same : get_or ts i e ≡ get_or ts i d = default_of ts i e d lt in
        ⊎_elim
        (λ (at : i ≡ n). let top = last (omega (arith, lt)) in let is = ap key_of (same ∙ ap (λ (m : ℕ). get_or ts m d) at) in omega (arith, top, is))
        (λ (ne : i ≢ n). let below : i < n = ⊎_elim (λ (l : i < n). l) (λ (g : n ≤ i). absurd (ne (omega (arith, g, lt)))) (cases_lt i n) in let pair = rises_pair ts i n d rises below within in let top = last (omega (arith, lt)) in let is = ap key_of same in omega (arith, pair, top, is))
        (cases_eq i n)

-- What a search for a key finds.

-- a key that is above all is nowhere
pub less_missing : (ts : List Tombstone) (k : ℕ) → AreLess ts k → IsMissing ts k
less_missing [] k less = tt
less_missing (t ∷ ts) k less = ((λ e. let lt = less.0 in omega (arith, lt, e)), less_missing ts k less.1)

pub missing_found : (ts : List Tombstone) (k : ℕ) → IsMissing ts k → found_at ts k ≡ None
missing_found [] k none = refl
missing_found (t ∷ ts) k none = cond-false (key_of t == k) (Some t) (found_at ts k) (ne_eqb (key_of t) k none.0) ∙ missing_found ts k none.1

pub spot_found : (ts : List Tombstone) (k i : ℕ) (d : Tombstone) → Rising ts → i < length ts → key_of (get_or ts i d) ≡ k → found_at ts k ≡ Some (get_or ts i d)
spot_found [] k i d rises lt is = absurd (omega (arith, lt))
spot_found (t ∷ ts) k zero d rises lt is = cond-true (key_of t == k) (Some t) (found_at ts k) (eq-eqb (key_of t) k is)
spot_found (t ∷ ts) k (suc i) d rises lt is =
    let less = above_at (key_of t) ts i d rises.0 (omega (arith, lt)) in
    let ne = ne_eqb (key_of t) k (λ e. omega (arith, e, is, less)) in
    cond-false (key_of t == k) (Some t) (found_at ts k) ne ∙ spot_found ts k i d rises.1 (omega (arith, lt)) is

pub hit : (k q : ℕ) → k ≡ q → is_at (nat_cmp k) q ≡ true
hit k q e = unsigned_tied k q ∙ eq-eqb k q e

-- the same among all that the index keeps
pub placed_found : (ts : List Tombstone) (k : ℕ) → place_at (tomb_places ts) k ≡ option_map place_of (found_at ts k)
placed_found [] k = refl
placed_found (t ∷ ts) k = ⊎_elim
    (λ (e : key_of t ≡ k). cond-true (is_at (nat_cmp k) (key_of t)) (Some (place_of t)) (place_at (tomb_places ts) k) (hit k (key_of t) (sym e)) ∙ ap (option_map place_of) (sym (cond-true (key_of t == k) (Some t) (found_at ts k) (eq-eqb (key_of t) k e))))
    (λ (ne : key_of t ≢ k). cond-false (is_at (nat_cmp k) (key_of t)) (Some (place_of t)) (place_at (tomb_places ts) k) (apart k (key_of t) ne) ∙ placed_found ts k ∙ ap (option_map place_of) (sym (cond-false (key_of t == k) (Some t) (found_at ts k) (ne_eqb (key_of t) k ne))))
    (cases_eq (key_of t) k)

pub known_found : (ts : List Tombstone) (k : ℕ) (o : Option Tombstone) → o ≡ found_at ts k → known_at (tomb_places ts) k ≡ known_in (option_map place_of o)
known_found ts k o is = ap known_in (placed_found ts k ∙ ap (option_map place_of) (sym is))

pub no_room : (ts : List Tombstone) (k : ℕ) → room_at (tomb_places ts) k ≡ 0
no_room ts k = ap room_in (placed_found ts k) ∙ by (found_at ts k)
  where
    by : (o : Option Tombstone) → room_in (option_map place_of o) ≡ 0
    by None = refl
    by (Some t) = refl

left_dead : (f : Fate) (v home : ℕ) → live_version (left_by f v home) ≡ None
left_dead Untold v home = refl
left_dead Told v home = refl
left_dead Gone v home = refl
left_dead Moved v home = refl

pub none_live : (ts : List Tombstone) (k : ℕ) → live_version (known_at (tomb_places ts) k) ≡ None
none_live ts k = ap (λ (o : Option Place). live_version (known_in o)) (placed_found ts k) ∙ by (found_at ts k)
  where
    by : (o : Option Tombstone) → live_version (known_in (option_map place_of o)) ≡ None
    by None = refl
    by (Some t) = left_dead t.fate (tomb_version t) (tomb_home t)

-- An entry that has another fate.

pub missing_fated : (ts : List Tombstone) (k : ℕ) (f : Fate) → IsMissing ts k → fated ts k f ≡ ts
missing_fated [] k f none = refl
missing_fated (t ∷ ts) k f none = cond-false (key_of t == k) (with_fate f t ∷ ts) (t ∷ fated ts k f) (ne_eqb (key_of t) k none.0) ∙ ap (λ (xs : List Tombstone). t ∷ xs) (missing_fated ts k f none.1)

pub spot_fated : (ts : List Tombstone) (k i : ℕ) (f : Fate) (d : Tombstone) → Rising ts → i < length ts → key_of (get_or ts i d) ≡ k → slice_set ts i (with_fate f (get_or ts i d)) ≡ fated ts k f
spot_fated [] k i f d rises lt is = absurd (omega (arith, lt))
spot_fated (t ∷ ts) k zero f d rises lt is = sym (cond-true (key_of t == k) (with_fate f t ∷ ts) (t ∷ fated ts k f) (eq-eqb (key_of t) k is))
spot_fated (t ∷ ts) k (suc i) f d rises lt is =
    let less = above_at (key_of t) ts i d rises.0 (omega (arith, lt)) in
    let ne = ne_eqb (key_of t) k (λ e. omega (arith, e, is, less)) in
    ap (λ (xs : List Tombstone). t ∷ xs) (spot_fated ts k i f d rises.1 (omega (arith, lt)) is) ∙ sym (cond-false (key_of t == k) (with_fate f t ∷ ts) (t ∷ fated ts k f) ne)

all_set : (P : Tombstone → Type 0) (ts : List Tombstone) (i : ℕ) (x : Tombstone) → AllByRecursion P ts → P x → AllByRecursion P (slice_set ts i x)
all_set P [] i x all own = tt
all_set P (t ∷ ts) zero x all own = (own, all.1)
all_set P (t ∷ ts) (suc i) x all own = (all.0, all_set P ts i x all.1 own)

length_set : (ts : List Tombstone) (i : ℕ) (x : Tombstone) → length (slice_set ts i x) ≡ length ts
length_set [] i x = refl
length_set (t ∷ ts) zero x = refl
length_set (t ∷ ts) (suc i) x = ap suc (length_set ts i x)

pub turned_listed : (ts : List Tombstone) (passed : List ℕ) (i : ℕ) (f : Fate) (d : Tombstone) → AreListed ts passed → i < length ts → AreListed (slice_set ts i (with_fate f (get_or ts i d))) passed
turned_listed ts passed i f d is lt = record {
  homes = all_set (λ (t : Tombstone). tomb_home t < 16) ts i (with_fate f (get_or ts i d)) is.homes (all_at (λ (t : Tombstone). tomb_home t < 16) ts i d is.homes lt);
  within = subst (λ (m : ℕ). AllByRecursion (λ (n : ℕ). n ≤ m) passed) (sym (length_set ts i (with_fate f (get_or ts i d)))) is.within;
}

all_fated : (P : Tombstone → Type 0) (ts : List Tombstone) (k : ℕ) (f : Fate) → ((t : Tombstone) → P t → P (with_fate f t)) → AllByRecursion P ts → AllByRecursion P (fated ts k f)
all_fated P [] k f keeps all = tt
all_fated P (t ∷ ts) k f keeps all = by (key_of t == k) (all_fated P ts k f keeps all.1)
  where
    by : (b : Bool) → AllByRecursion P (fated ts k f) → AllByRecursion P (cond b (with_fate f t ∷ ts) (t ∷ fated ts k f))
    by true rest = (keeps t all.0, all.1)
    by false rest = (all.0, rest)

pub rising_fated : (ts : List Tombstone) (k : ℕ) (f : Fate) → Rising ts → Rising (fated ts k f)
rising_fated [] k f rises = tt
rising_fated (t ∷ ts) k f rises = by (key_of t == k) (rising_fated ts k f rises.1) (all_fated (λ (x : Tombstone). key_of t < key_of x) ts k f (λ x lt. lt) rises.0)
  where
    by : (b : Bool) → Rising (fated ts k f) → AllByRecursion (λ (x : Tombstone). key_of t < key_of x) (fated ts k f) → Rising (cond b (with_fate f t ∷ ts) (t ∷ fated ts k f))
    by true rest above = (rises.0, rises.1)
    by false rest above = (above, rest)

pub length_fated : (ts : List Tombstone) (k : ℕ) (f : Fate) → length (fated ts k f) ≡ length ts
length_fated [] k f = refl
length_fated (t ∷ ts) k f = by (key_of t == k) (length_fated ts k f)
  where
    by : (b : Bool) → length (fated ts k f) ≡ length ts → length (cond b (with_fate f t ∷ ts) (t ∷ fated ts k f)) ≡ length (t ∷ ts)
    by true rest = refl
    by false rest = omega (arith, rest)

pub fated_here : (ts : List Tombstone) (k : ℕ) (f : Fate) → found_at (fated ts k f) k ≡ option_map (with_fate f) (found_at ts k)
fated_here [] k f = refl
fated_here (t ∷ ts) k f = by (key_of t == k) refl (fated_here ts k f)
  where
    by : (b : Bool) → (key_of t == k) ≡ b → found_at (fated ts k f) k ≡ option_map (with_fate f) (found_at ts k) → found_at (cond b (with_fate f t ∷ ts) (t ∷ fated ts k f)) k ≡ option_map (with_fate f) (cond b (Some t) (found_at ts k))
    by true is rest = cond-true (key_of t == k) (Some (with_fate f t)) (found_at ts k) is
    by false is rest = cond-false (key_of t == k) (Some t) (found_at (fated ts k f) k) is ∙ rest

pub fated_other : (ts : List Tombstone) (k j : ℕ) (f : Fate) → j ≢ k → found_at (fated ts k f) j ≡ found_at ts j
fated_other [] k j f ne = refl
fated_other (t ∷ ts) k j f ne = by (key_of t == k) refl (fated_other ts k j f ne)
  where
    by : (b : Bool) → (key_of t == k) ≡ b → found_at (fated ts k f) j ≡ found_at ts j → found_at (cond b (with_fate f t ∷ ts) (t ∷ fated ts k f)) j ≡ found_at (t ∷ ts) j
    by true is rest =
        let e = eqb-true (key_of t) k is in
        let isnt = ne_eqb (key_of t) j (λ same. ne (sym same ∙ e)) in
        cond-false (key_of t == j) (Some (with_fate f t)) (found_at ts j) isnt ∙ sym (cond-false (key_of t == j) (Some t) (found_at ts j) isnt)
    by false is rest = ap (cond (key_of t == j) (Some t)) rest

record SameName (x y : Tombstone) : Type 0 where
  key : key_of x ≡ key_of y
  version : (tomb_version x) ≡ (tomb_version y)
  home : (tomb_home x) ≡ (tomb_home y)

same_name : (ts : List Tombstone) (k : ℕ) (f : Fate) (i : ℕ) (d : Tombstone) → SameName (get_or (fated ts k f) i d) (get_or ts i d)
same_name [] k f i d = record { key = refl; version = refl; home = refl }
same_name (t ∷ ts) k f i d = by (key_of t == k) i (λ j. same_name ts k f j d)
  where
    by : (b : Bool) (i : ℕ) → ((j : ℕ) → SameName (get_or (fated ts k f) j d) (get_or ts j d)) → SameName (get_or (cond b (with_fate f t ∷ ts) (t ∷ fated ts k f)) i d) (get_or (t ∷ ts) i d)
    by true zero rest = record { key = refl; version = refl; home = refl }
    by true (suc i) rest = record { key = refl; version = refl; home = refl }
    by false zero rest = record { key = refl; version = refl; home = refl }
    by false (suc i) rest = rest i

abbrev pub fated_in : Tombs → ℕ → Fate → Tombs
fated_in a k f = record { items = fated a.items k f; passed = a.passed }

pub fated_ahead : (a : Tombs) (k : ℕ) (f : Fate) (home : ℕ) (n : EntryName) → Ahead a home n → Ahead (fated_in a k f) home n
fated_ahead a k f home n is =
    let same = same_name a.items k f is.at bare_tombstone in
    record {
      at = is.at;
      from = is.from;
      within = subst (λ (m : ℕ). is.at < m) (sym (length_fated a.items k f)) is.within;
      key = same.key ∙ is.key;
      version = same.version ∙ is.version;
      home_is = same.home ∙ is.home_is;
    }

-- what the index keeps then
pub fated_turns : (a : Tombs) (k : ℕ) (f : Fate) (now : Option KeyRecord) → known_in (option_map place_of (option_map (with_fate f) (found_at a.items k))) ≡ now → Turns a (fated_in a k f) k now
fated_turns a k f now is = record {
  here = ap known_in (placed_found (fated a.items k f) k ∙ ap (option_map place_of) (fated_here a.items k f)) ∙ is;
  others = λ j ne. placed_found (fated a.items k f) j ∙ ap (option_map place_of) (fated_other a.items k j f ne) ∙ sym (placed_found a.items j);
  ahead = fated_ahead a k f;
}

-- An untold one that is told is one less to be told.
pub fated_fewer : (ts : List Tombstone) (k : ℕ) (t : Tombstone) → found_at ts k ≡ Some t → t.fate ≡ Untold → all_untold (tomb_places (fated ts k Told)) + 1 ≡ all_untold (tomb_places ts)
fated_fewer [] k t is new = absurd (cc is)
fated_fewer (x ∷ ts) k t is new = by (key_of x == k) is (fated_fewer ts k t)
  where
    by : (b : Bool) → cond b (Some x) (found_at ts k) ≡ Some t → (found_at ts k ≡ Some t → t.fate ≡ Untold → all_untold (tomb_places (fated ts k Told)) + 1 ≡ all_untold (tomb_places ts)) → all_untold (tomb_places (cond b (with_fate Told x ∷ ts) (x ∷ fated ts k Told))) + 1 ≡ all_untold (tomb_places (x ∷ ts))
    by true at rest =
        let e : x ≡ t = cc at in
        let one : untold_in (place_of x) ≡ 1 = ap (λ (f : Fate). count_untold (standing_of (left_by f (tomb_version x) (tomb_home x)))) (ap (λ (y : Tombstone). y.fate) e ∙ new) in
        let a = sum_by-cons untold_in (place_of (with_fate Told x)) (values_of (tomb_places ts)) in
        let b = sum_by-cons untold_in (place_of x) (values_of (tomb_places ts)) in
        omega (arith, a, b, one)
    by false at rest =
        let less = rest at new in
        let a = sum_by-cons untold_in (place_of x) (values_of (tomb_places (fated ts k Told))) in
        let b = sum_by-cons untold_in (place_of x) (values_of (tomb_places ts)) in
        omega (arith, a, b, less)

-- An entry that is gone, or whose key is elsewhere, is not to be told.
abbrev pub TellsNone : Fate → Type 0
TellsNone f = (t : Tombstone) → untold_in (place_of (with_fate f t)) ≡ 0

pub gone_tells : TellsNone Gone
gone_tells t = refl

pub moved_tells : TellsNone Moved
moved_tells t = refl

fated_less : (ts : List Tombstone) (k : ℕ) (f : Fate) → TellsNone f → all_untold (tomb_places (fated ts k f)) + untold_of (option_map place_of (found_at ts k)) ≡ all_untold (tomb_places ts)
fated_less [] k f none = refl
fated_less (x ∷ ts) k f none = by (key_of x == k) (fated_less ts k f none)
  where
    by : (b : Bool) → all_untold (tomb_places (fated ts k f)) + untold_of (option_map place_of (found_at ts k)) ≡ all_untold (tomb_places ts) → all_untold (tomb_places (cond b (with_fate f x ∷ ts) (x ∷ fated ts k f))) + untold_of (option_map place_of (cond b (Some x) (found_at ts k))) ≡ all_untold (tomb_places (x ∷ ts))
    by true rest =
        let a = sum_by-cons untold_in (place_of (with_fate f x)) (values_of (tomb_places ts)) in
        let b = sum_by-cons untold_in (place_of x) (values_of (tomb_places ts)) in
        let zero_more = none x in
        omega (arith, a, b, zero_more)
    by false rest =
        let a = sum_by-cons untold_in (place_of x) (values_of (tomb_places (fated ts k f))) in
        let b = sum_by-cons untold_in (place_of x) (values_of (tomb_places ts)) in
        omega (arith, a, b, rest)

pub fated_untold : (ts : List Tombstone) (k : ℕ) (f : Fate) → TellsNone f → all_untold (tomb_places (fated ts k f)) + untold_of (place_at (tomb_places ts) k) ≡ all_untold (tomb_places ts)
fated_untold ts k f none = let fewer = fated_less ts k f none in let at = ap untold_of (placed_found ts k) in omega (arith, fewer, at)

-- A key that is added behind all others.

all_more : (P : Tombstone → Type 0) (ts : List Tombstone) (t : Tombstone) → AllByRecursion P ts → P t → AllByRecursion P (ts ++ t ∷ [])
all_more P [] t all own = (own, tt)
all_more P (x ∷ ts) t all own = (all.0, all_more P ts t all.1 own)

pub rising_more : (ts : List Tombstone) (t : Tombstone) → Rising ts → AreLess ts (key_of t) → Rising (ts ++ t ∷ [])
rising_more [] t rises less = (tt, tt)
rising_more (x ∷ ts) t rises less = (all_more (λ (y : Tombstone). key_of x < key_of y) ts t rises.0 less.0, rising_more ts t rises.1 less.1)

within_more : (passed : List ℕ) (m n : ℕ) → m ≤ n → AllByRecursion (λ (x : ℕ). x ≤ m) passed → AllByRecursion (λ (x : ℕ). x ≤ n) passed
within_more [] m n le all = tt
within_more (x ∷ passed) m n le all = ((let own = all.0 in omega (arith, own, le)), within_more passed m n le all.1)

pub pushed_listed : (ts : List Tombstone) (passed : List ℕ) (t : Tombstone) → AreListed ts passed → (tomb_home t) < 16 → AreListed (ts ++ t ∷ []) passed
pushed_listed ts passed t is home = record {
  homes = all_more (λ (x : Tombstone). (tomb_home x) < 16) ts t is.homes home;
  within = let longer = length-append ts (t ∷ []) in within_more passed (length ts) (length (ts ++ t ∷ [])) (omega (arith, longer)) is.within;
}

pub passed_within : (passed : List ℕ) (n home : ℕ) → AllByRecursion (λ (x : ℕ). x ≤ n) passed → get_or passed home 0 ≤ n
passed_within [] n home all = omega arith
passed_within (x ∷ passed) n zero all = all.0
passed_within (x ∷ passed) n (suc home) all = passed_within passed n home all.1

pub more_here : (ts : List Tombstone) (t : Tombstone) → AreLess ts (key_of t) → found_at (ts ++ t ∷ []) (key_of t) ≡ Some t
more_here [] t less = cond-true (key_of t == key_of t) (Some t) None (eq-eqb (key_of t) (key_of t) refl)
more_here (x ∷ ts) t less = cond-false (key_of x == key_of t) (Some x) (found_at (ts ++ t ∷ []) (key_of t)) (ne_eqb (key_of x) (key_of t) (λ e. let lt = less.0 in omega (arith, lt, e))) ∙ more_here ts t less.1

pub more_other : (ts : List Tombstone) (t : Tombstone) (j : ℕ) → j ≢ key_of t → found_at (ts ++ t ∷ []) j ≡ found_at ts j
more_other [] t j ne = cond-false (key_of t == j) (Some t) None (ne_eqb (key_of t) j (λ e. ne (sym e)))
more_other (x ∷ ts) t j ne = ap (cond (key_of x == j) (Some x)) (more_other ts t j ne)

at_before : (ts : List Tombstone) (t d : Tombstone) (i : ℕ) → i < length ts → get_or (ts ++ t ∷ []) i d ≡ get_or ts i d
at_before [] t d i lt = absurd (omega (arith, lt))
at_before (x ∷ ts) t d zero lt = refl
at_before (x ∷ ts) t d (suc i) lt = at_before ts t d i (omega (arith, lt))

at_end : (ts : List Tombstone) (t d : Tombstone) → get_or (ts ++ t ∷ []) (length ts) d ≡ t
at_end [] t d = refl
at_end (x ∷ ts) t d = at_end ts t d

abbrev pub with_more : Tombs → Tombstone → Tombs
with_more a t = record { items = a.items ++ t ∷ []; passed = a.passed }

pub more_ahead : (a : Tombs) (t : Tombstone) (home : ℕ) (n : EntryName) → Ahead a home n → Ahead (with_more a t) home n
more_ahead a t home n is =
    let same = at_before a.items t bare_tombstone is.at is.within in
    let longer = length-append a.items (t ∷ []) in
    let lt = is.within in
    record {
      at = is.at;
      from = is.from;
      within = omega (arith, longer, lt);
      key = ap key_of same ∙ is.key;
      version = ap tomb_version same ∙ is.version;
      home_is = ap tomb_home same ∙ is.home_is;
    }

pub own_ahead : (a : Tombs) (t : Tombstone) → passed_at a (tomb_home t) ≤ length a.items → Ahead (with_more a t) (tomb_home t) (name_with (key_of t) (tomb_version t))
own_ahead a t le =
    let same = at_end a.items t bare_tombstone in
    let longer = length-append a.items (t ∷ []) in
    record {
      at = length a.items;
      from = le;
      within = omega (arith, longer);
      key = ap key_of same;
      version = ap tomb_version same;
      home_is = ap tomb_home same;
    }

-- A key that a home was asked about.

abbrev pub passing : Tombs → ℕ → Tombs
passing a home = record { items = a.items; passed = slice_set a.passed home (passed_at a home + 1) }

all_within : (ts : List Tombstone) (ps : List ℕ) (i n : ℕ) → AllByRecursion (λ (x : ℕ). x ≤ length ts) ps → n ≤ length ts → AllByRecursion (λ (x : ℕ). x ≤ length ts) (slice_set ps i n)
all_within ts [] i n all le = tt
all_within ts (x ∷ ps) zero n all le = (le, all.1)
all_within ts (x ∷ ps) (suc i) n all le = (all.0, all_within ts ps i n all.1 le)

pub passed_listed : (ts : List Tombstone) (passed : List ℕ) (home : ℕ) → AreListed ts passed → get_or passed home 0 < length ts → AreListed ts (slice_set passed home (get_or passed home 0 + 1))
passed_listed ts passed home is lt = record { homes = is.homes; within = all_within ts passed home (get_or passed home 0 + 1) is.within (omega (arith, lt)) }

pub none_far : (a : Tombs) (home : ℕ) (n : EntryName) → AllByRecursion (λ (t : Tombstone). (tomb_home t) < 16) a.items → 16 ≤ home → Ahead a home n → ⊥
none_far a home n homes far is = let lt = all_at (λ (t : Tombstone). (tomb_home t) < 16) a.items is.at bare_tombstone homes is.within in let e = is.home_is in omega (arith, lt, e, far)

pub none_left : (a : Tombs) (home : ℕ) (n : EntryName) → length a.items ≤ passed_at a home → Ahead a home n → ⊥
none_left a home n past is = let from = is.from in let lt = is.within in omega (arith, past, from, lt)

set_other : (ps : List ℕ) (i j n : ℕ) → j ≢ i → get_or (slice_set ps i n) j 0 ≡ get_or ps j 0
set_other [] i j n ne = refl
set_other (p ∷ ps) zero zero n ne = absurd (ne refl)
set_other (p ∷ ps) zero (suc j) n ne = refl
set_other (p ∷ ps) (suc i) zero n ne = refl
set_other (p ∷ ps) (suc i) (suc j) n ne = set_other ps i j n (λ e. ne (ap suc e))

pub set_here : (ps : List ℕ) (i n : ℕ) → i < length ps → get_or (slice_set ps i n) i 0 ≡ n
set_here [] i n lt = absurd (omega (arith, lt))
set_here (p ∷ ps) zero n lt = refl
set_here (p ∷ ps) (suc i) n lt = set_here ps i n (omega (arith, lt))

abbrev pub IsOfHome : Tombstone → ℕ → ℕ → EntryName → Type 0
IsOfHome t home h n = (h ≡ home) × (n ≡ name_with (key_of t) (tomb_version t)) × ((tomb_home t) ≡ home)

pub passed_one : (a : Tombs) (home : ℕ) (t : Tombstone) → home < length a.passed → t ≡ get_or a.items (passed_at a home) bare_tombstone → (h : ℕ) (n : EntryName) → Ahead a h n → IsOfHome t home h n ⊎ Ahead (passing a home) h n
passed_one a home t lt is h n ahead = ⊎_elim
    (λ (same : h ≡ home). ⊎_elim
    (λ (at : ahead.at ≡ passed_at a home).
    let e : get_or a.items ahead.at bare_tombstone ≡ t = ap (λ (i : ℕ). get_or a.items i bare_tombstone) at ∙ sym is in
    let key : n.key ≡ key_of t = sym ahead.key ∙ ap key_of e in
    let version : n.version ≡ (tomb_version t) = sym ahead.version ∙ ap tomb_version e in
    let own : (tomb_home t) ≡ home = sym (ap tomb_home e) ∙ ahead.home_is ∙ same in
    inl (same, (λ i. name_with (key i) (version i)), own))
    (λ (ne : ahead.at ≢ passed_at a home).
    let from : passed_at a home ≤ ahead.at = subst (λ (x : ℕ). passed_at a x ≤ ahead.at) same ahead.from in
    let here : passed_at (passing a home) h ≡ passed_at a home + 1 = ap (λ (x : ℕ). passed_at (passing a home) x) same ∙ set_here a.passed home (passed_at a home + 1) lt in
    let more : passed_at a home + 1 ≤ ahead.at = ⊎_elim (λ (l : passed_at a home < ahead.at). omega (arith, l)) (λ (g : ahead.at ≤ passed_at a home). absurd (ne (omega (arith, g, from)))) (cases_lt (passed_at a home) ahead.at) in
    inr (record { at = ahead.at; from = omega (arith, here, more); within = ahead.within; key = ahead.key; version = ahead.version; home_is = ahead.home_is }))
    (cases_eq ahead.at (passed_at a home)))
    (λ (other : h ≢ home).
    let here : passed_at (passing a home) h ≡ passed_at a h = set_other a.passed home h (passed_at a home + 1) other in
    let from = ahead.from in
    inr (record { at = ahead.at; from = omega (arith, here, from); within = ahead.within; key = ahead.key; version = ahead.version; home_is = ahead.home_is }))
    (cases_eq h home)

-- What its calls make of such a key.

pub same_turns : (a : Tombs) (k : ℕ) (now : Option KeyRecord) → known_at (tomb_places a.items) k ≡ now → Turns a a k now
same_turns a k now is = record { here = is; others = λ j ne. refl; ahead = λ home n ahead. ahead }

pub cleared : (a : Tombs) (k : ℕ) → Turns a (fated_in a k Moved) k None
cleared a k = fated_turns a k Moved None (by (found_at a.items k))
  where
    by : (o : Option Tombstone) → known_in (option_map place_of (option_map (with_fate Moved) o)) ≡ None
    by None = refl
    by (Some t) = refl

gone_left : (f : Fate) (v home w : ℕ) → v ≡ w → IsThere f → left_by Gone v home ≡ option_map (without w) (left_by f v home)
gone_left Untold v home w e there = ap (λ (b : Bool). Some (deleted v (cond (not b) (standing_with v home false ∷ []) []))) (sym (eq-eqb v w e))
gone_left Told v home w e there = ap (λ (b : Bool). Some (deleted v (cond (not b) (standing_with v home true ∷ []) []))) (sym (eq-eqb v w e))
gone_left Gone v home w e there = absurd there
gone_left Moved v home w e there = absurd there

pub gone_turns : (a : Tombs) (k w : ℕ) (t : Tombstone) → Some t ≡ found_at a.items k → (tomb_version t) ≡ w → IsThere t.fate → Turns a (fated_in a k Gone) k (option_map (without w) (known_at (tomb_places a.items) k))
gone_turns a k w t is e there = fated_turns a k Gone (option_map (without w) (known_at (tomb_places a.items) k)) (
    ap (λ (o : Option Tombstone). known_in (option_map place_of (option_map (with_fate Gone) o))) (sym is)
    ∙ gone_left t.fate (tomb_version t) (tomb_home t) w e there
    ∙ ap (option_map (without w)) (sym (known_found a.items k (Some t) is)))

none_stands : (v home w : ℕ) → Awaits (Some (deleted v [])) home w → ⊥
none_stands v home w waits =
    let e : deleted v [] ≡ waits.found = let has = waits.has in cc has in
    let stands = ap (λ (r : KeyRecord). standing_at r.standing w) e ∙ waits.stands in
    cc stands

pub gone_waits : (a : Tombs) (k : ℕ) (t : Tombstone) → Some t ≡ found_at a.items k → (home w : ℕ) → Awaits (known_at (tomb_places (fated a.items k Gone)) k) home w → ⊥
gone_waits a k t is home w waits =
    let now : known_at (tomb_places (fated a.items k Gone)) k ≡ Some (deleted (tomb_version t) []) = known_found (fated a.items k Gone) k (Some (with_fate Gone t)) (ap (option_map (with_fate Gone)) is ∙ sym (fated_here a.items k Gone)) in
    none_stands (tomb_version t) home w (subst (λ (o : Option KeyRecord). Awaits o home w) now waits)

-- who waits was not told, and is of this name
pub record OwnName (f : Fate) (v h home w : ℕ) : Type 0 where
  pub untold : f ≡ Untold
  pub version : v ≡ w
  pub home_is : h ≡ home

pub waits_own : (f : Fate) (v h home w : ℕ) → Awaits (left_by f v h) home w → OwnName f v h home w
waits_own Untold v h home w waits =
    let e : deleted v (standing_with v h false ∷ []) ≡ waits.found = let has = waits.has in cc has in
    let stands = ap (λ (r : KeyRecord). standing_at r.standing w) e ∙ waits.stands in
    by (v == w) refl stands
  where
    by : (b : Bool) → (v == w) ≡ b → cond b (Some (standing_with v h false)) None ≡ Some (standing_with w home false) → OwnName Untold v h home w
    by true same at = record { untold = refl; version = eqb-true v w same; home_is = let one : standing_with v h false ≡ standing_with w home false = cc at in ap (λ (s : StandingEntry). s.home) one }
    by false same at = absurd (cc at)
waits_own Told v h home w waits =
    let e : deleted v (standing_with v h true ∷ []) ≡ waits.found = let has = waits.has in cc has in
    let stands = ap (λ (r : KeyRecord). standing_at r.standing w) e ∙ waits.stands in
    absurd (by (v == w) stands)
  where
    by : (b : Bool) → cond b (Some (standing_with v h true)) None ≡ Some (standing_with w home false) → ⊥
    by true at = let one : standing_with v h true ≡ standing_with w home false = cc at in let flag : true ≡ false = ap (λ (s : StandingEntry). s.told) one in cc flag
    by false at = cc at
waits_own Gone v h home w waits = absurd (none_stands v home w waits)
waits_own Moved v h home w waits = let has = waits.has in absurd (cc has)

told_left : (f : Fate) (v home w : ℕ) → f ≡ Untold → v ≡ w → left_by Told v home ≡ option_map (told_in w) (left_by f v home)
told_left f v home w new e = ap (λ (b : Bool). Some (deleted v (cond b (standing_with v home true ∷ []) (standing_with v home false ∷ [])))) (sym (eq-eqb v w e)) ∙ ap (λ (g : Fate). option_map (told_in w) (left_by g v home)) (sym new)

pub told_tomb : (a : Tombs) (home : ℕ) (n : EntryName) (t : Tombstone) → Some t ≡ found_at a.items n.key → Awaits (left_of t) home n.version → ToldAt (tomb_places a.items) (tomb_places (fated a.items n.key Told)) home n
told_tomb a home n t is waits =
    let own = waits_own t.fate (tomb_version t) (tomb_home t) home n.version waits in
    let was : known_at (tomb_places a.items) n.key ≡ left_of t = known_found a.items n.key (Some t) is in
    let now : known_at (tomb_places (fated a.items n.key Told)) n.key ≡ left_by Told (tomb_version t) (tomb_home t) = known_found (fated a.items n.key Told) n.key (Some (with_fate Told t)) (ap (option_map (with_fate Told)) is ∙ sym (fated_here a.items n.key Told)) in
    let turns = fated_turns a n.key Told (known_at (tomb_places (fated a.items n.key Told)) n.key) (sym (ap known_in (placed_found (fated a.items n.key Told) n.key ∙ ap (option_map place_of) (fated_here a.items n.key Told)))) in
    record {
      tells = record {
        waited = subst (λ (o : Option KeyRecord). Awaits o home n.version) (sym was) waits;
        change = record {
          here = now ∙ told_left t.fate (tomb_version t) (tomb_home t) n.version own.untold own.version ∙ ap (option_map (told_in n.version)) (sym was);
          others = λ j ne. ap known_in (turns.others j ne);
        };
        room = λ j. no_room (fated a.items n.key Told) j ∙ sym (no_room a.items j);
      };
      others = turns.others;
      waits = λ w h after. let other = waits_own Told (tomb_version t) (tomb_home t) h w (subst (λ (o : Option KeyRecord). Awaits o h w) now after) in let flag = other.untold in absurd (cc flag);
      fewer = fated_fewer a.items n.key t (sym is) own.untold;
    }

pub none_waits : (home v : ℕ) → Awaits None home v → ⊥
none_waits home v waits = let has = waits.has in cc has

pub shows_deleted : (f : Fate) (v home : ℕ) → (f ≡ Moved → ⊥) → Shows (left_by f v home) looks.Deleted
shows_deleted Untold v home ne = refl
shows_deleted Told v home ne = refl
shows_deleted Gone v home ne = refl
shows_deleted Moved v home ne = absurd (ne refl)

-- Each home is asked about all again.

abbrev pub zeros : List ℕ
zeros = 0 ∷ 0 ∷ 0 ∷ 0 ∷ 0 ∷ 0 ∷ 0 ∷ 0 ∷ 0 ∷ 0 ∷ 0 ∷ 0 ∷ 0 ∷ 0 ∷ 0 ∷ 0 ∷ []

no_zero : (xs : List ℕ) (i : ℕ) → AllByRecursion (λ (x : ℕ). x ≡ 0) xs → get_or xs i 0 ≡ 0
no_zero [] i all = refl
no_zero (x ∷ xs) zero all = all.0
no_zero (x ∷ xs) (suc i) all = no_zero xs i all.1

zeros_at : (i : ℕ) → get_or zeros i 0 ≡ 0
zeros_at i = no_zero zeros i (refl, (refl, (refl, (refl, (refl, (refl, (refl, (refl, (refl, (refl, (refl, (refl, (refl, (refl, (refl, (refl, tt))))))))))))))))

pub found_key : (ts : List Tombstone) (k : ℕ) (t : Tombstone) → found_at ts k ≡ Some t → key_of t ≡ k
found_key [] k t is = absurd (cc is)
found_key (x ∷ ts) k t is = by (key_of x == k) refl is (found_key ts k t)
  where
    by : (b : Bool) → (key_of x == k) ≡ b → cond b (Some x) (found_at ts k) ≡ Some t → (found_at ts k ≡ Some t → key_of t ≡ k) → key_of t ≡ k
    by true same at rest = let e : x ≡ t = cc at in ap key_of (sym e) ∙ eqb-true (key_of x) k same
    by false other at rest = rest at

record FoundThere (ts : List Tombstone) (t : Tombstone) : Type 0 where
  at : ℕ
  within : at < length ts
  there : get_or ts at bare_tombstone ≡ t

found_there : (ts : List Tombstone) (k : ℕ) (t : Tombstone) → found_at ts k ≡ Some t → FoundThere ts t
found_there [] k t is = absurd (cc is)
found_there (x ∷ ts) k t is = by (key_of x == k) is (found_there ts k t)
  where
    by : (b : Bool) → cond b (Some x) (found_at ts k) ≡ Some t → (found_at ts k ≡ Some t → FoundThere ts t) → FoundThere (x ∷ ts) t
    by true at rest = record { at = 0; within = omega arith; there = cc at }
    by false at rest = let is = rest at in record { at = suc is.at; within = (let lt = is.within in omega (arith, lt)); there = is.there }

abbrev pub rewound : List Tombstone → Tombs
rewound ts = record { items = ts; passed = zeros }

pub rewound_ahead : (a : Tombs) (h : ℕ) (n : EntryName) → Ahead a h n → Ahead (rewound a.items) h n
rewound_ahead a h n is = record {
  at = is.at;
  from = let zero = zeros_at h in omega (arith, zero);
  within = is.within;
  key = is.key;
  version = is.version;
  home_is = is.home_is;
}

pub rewound_own : (ts : List Tombstone) (k : ℕ) (t : Tombstone) → found_at ts k ≡ Some t → Ahead (rewound ts) (tomb_home t) (name_with (key_of t) (tomb_version t))
rewound_own ts k t is =
    let there = found_there ts k t is in
    record {
      at = there.at;
      from = let zero = zeros_at (tomb_home t) in omega (arith, zero);
      within = there.within;
      key = ap key_of there.there;
      version = ap tomb_version there.there;
      home_is = ap tomb_home there.there;
    }
