-- Keys that had a value at the start, by rising key.
use Rattle.std.proofs.Common.{◌≡◌, ◌≢◌, ⊎_elim, ℕ, zero, suc, ◌+◌, ◌-◌, ◌<◌, ◌≤◌, ◌==◌, Bool, true, false, cond, not, ◌&&◌, ◌||◌, List, [], ◌∷◌, ◌++◌, length, take, drop, get_or, Option, Some, None, option_map, refl, sym, ◌∙◌, ap, subst, arith, slice_set, length-drop}
use Rattle.std.specs.List.{AllByRecursion}
use Rattle.std.specs.List.Sorted.{IsNonDecreasingBy}
use Rattle.std.specs.Map.{values_of}
use Rattle.std.proofs.lemmas.List.Sums.{sum_by-cons}
use Rattle.std.specs.BTreeMap.{is_at}
use Rattle.std.specs.Ordering.{nat_cmp}
use Rattle.std.specs.Cmp.{unsigned_tied}
use Rattle.std.proofs.lemmas.List.{length-append, take-append-le, drop-append-le}
use Rattle.std.proofs.lemmas.Bool.{eqb-true, eq-eqb, ne_eqb, le-ltb, cond-true, cond-false, cases_eq, cases_lt}
use Rattle.log_entry.specs.declared.entry.Body.{Body}
use Rattle.log_entry.specs.declared.entry.Body.TheVariants as bodies
use Rattle.core_index.specs.declared.types.ValuePlace.{ValuePlace}
use Rattle.core_index.specs.declared.types.ValuePlace.TheVariants.{InBlock, Beside}
use Rattle.core_index.specs.declared.types.LiveFate.{LiveFate}
use Rattle.core_index.specs.declared.types.LiveFate.TheVariants.{Stands, Gone, Moved}
use Rattle.core_index.specs.declared.types.LiveKey.{LiveKey}
use Rattle.core_index.specs.declared.types.Look.{Look}
use Rattle.core_index.specs.declared.types.StandingEntry.{StandingEntry}
use Rattle.core_index.specs.Records.{KeyRecord, Shows, ShowsBody, is_dead, is_tombstone, stands_alone, standing_with, without}
use Rattle.core_index.specs.Slots.{Place}
use Rattle.core_index.specs.Lives.{entry_version, entry_home, AreLives, live_key, body_in, IsWithin, valued, valued_by, IsStanding, live_place, live_at, places_of, with_live_fate, turned, AllLess, KeysRise, IsNotThere}
use Rattle.core_index.specs.Index.{place_at, known_in, room_in, known_at, room_at, untold_in, untold_of, all_untold, gone_place, cleared, TurnsAt}
use Rattle.core_index.proofs.StepLaws.{apart}

above_at : (k : ℕ) (ts : List LiveKey) (j : ℕ) (d : LiveKey) → AllByRecursion (λ (x : LiveKey). k < live_key x) ts → j < length ts → k < live_key (get_or ts j d)
above_at k [] j d all lt = absurd (omega (arith, lt))
above_at k (t ∷ ts) zero d all lt = all.0
above_at k (t ∷ ts) (suc j) d all lt = above_at k ts j d all.1 (omega (arith, lt))

rises_pair : (ts : List LiveKey) (i j : ℕ) (d : LiveKey) → KeysRise ts → i < j → j < length ts → live_key (get_or ts i d) < live_key (get_or ts j d)
rises_pair [] i j d rises lt within = absurd (omega (arith, within))
rises_pair (t ∷ ts) i zero d rises lt within = absurd (omega (arith, lt))
rises_pair (t ∷ ts) zero (suc j) d rises lt within = above_at (live_key t) ts j d rises.0 (omega (arith, within))
rises_pair (t ∷ ts) (suc i) (suc j) d rises lt within = rises_pair ts i j d rises.1 (omega (arith, lt)) (omega (arith, within))

pub never_falls : (ts : List LiveKey) → KeysRise ts → IsNonDecreasingBy live_key ts
never_falls ts rises = λ i j d le within. ⊎_elim
    (λ (same : i ≡ j). let e = ap (λ (n : ℕ). live_key (get_or ts n d)) same in omega (arith, e))
    (λ (ne : i ≢ j). ⊎_elim (λ (lt : i < j). let less = rises_pair ts i j d rises lt within in omega (arith, less)) (λ (ge : j ≤ i). absurd (ne (omega (arith, le, ge)))) (cases_lt i j))
    (cases_eq i j)

pub all_from : (P : LiveKey → Type 0) (ts : List LiveKey) → ((k : ℕ) (d : LiveKey) → k < length ts → P (get_or ts k d)) → AllByRecursion P ts
all_from P [] each = tt
all_from P (t ∷ ts) each = (each 0 t (omega arith), all_from P ts (λ k d lt. each (suc k) d (omega (arith, lt))))

pub all_at : (P : LiveKey → Type 0) (ts : List LiveKey) (i : ℕ) (d : LiveKey) → AllByRecursion P ts → i < length ts → P (get_or ts i d)
all_at P [] i d all lt = absurd (omega (arith, lt))
all_at P (t ∷ ts) zero d all lt = all.0
all_at P (t ∷ ts) (suc i) d all lt = all_at P ts i d all.1 (omega (arith, lt))

pub missing_from : (ts : List LiveKey) (k at : ℕ) → KeysRise ts → ((i : ℕ) (d : LiveKey) → i < at → live_key (get_or ts i d) < k) → ((i : ℕ) (d : LiveKey) → at ≤ i → i < length ts → k ≤ live_key (get_or ts i d)) → (at < length ts → (d : LiveKey) → live_key (get_or ts at d) ≢ k) → IsNotThere ts k
missing_from ts k at rises less more ne = all_from (λ (t : LiveKey). live_key t ≢ k) ts (λ i d within e. ⊎_elim
    (λ (lt : i < at). let is = less i d lt in absurd (omega (arith, is, e)))
    (λ (ge : at ≤ i). ⊎_elim
    (λ (same : i ≡ at). ne (subst (λ (n : ℕ). n < length ts) same within) d (ap (λ (n : ℕ). live_key (get_or ts n d)) (sym same) ∙ e))
    (λ (other : i ≢ at). ⊎_elim
    (λ (lt : at < i). let first = more at d (omega arith) (omega (arith, lt, within)) in let is = rises_pair ts at i d rises lt within in absurd (omega (arith, first, is, e)))
    (λ (le : i ≤ at). absurd (other (omega (arith, le, ge))))
    (cases_lt at i))
    (cases_eq i at))
    (cases_lt i at))

default_of : (xs : List LiveKey) (i : ℕ) (e d : LiveKey) → i < length xs → get_or xs i e ≡ get_or xs i d
default_of [] i e d lt = absurd (omega (arith, lt))
default_of (x ∷ xs) zero e d lt = refl
default_of (x ∷ xs) (suc i) e d lt = default_of xs i e d (omega (arith, lt))

pub all_less : (ts : List LiveKey) (k : ℕ) (d : LiveKey) → KeysRise ts → (0 < length ts → live_key (get_or ts (length ts - 1) d) < k) → AllLess ts k
all_less ts k d rises last = all_from (λ (t : LiveKey). live_key t < k) ts (λ i e lt. less i e lt)
  where
    less : (i : ℕ) (e : LiveKey) → i < length ts → live_key (get_or ts i e) < k
    less i e lt =
        let n = length ts - 1 in
        let within : n < length ts = omega (arith, lt) in
        let same : get_or ts i e ≡ get_or ts i d = default_of ts i e d lt in
        ⊎_elim
        (λ (at : i ≡ n). let top = last (omega (arith, lt)) in let is = ap live_key (same ∙ ap (λ (m : ℕ). get_or ts m d) at) in omega (arith, top, is))
        (λ (ne : i ≢ n). let below : i < n = ⊎_elim (λ (l : i < n). l) (λ (g : n ≤ i). absurd (ne (omega (arith, g, lt)))) (cases_lt i n) in let pair = rises_pair ts i n d rises below within in let top = last (omega (arith, lt)) in let is = ap live_key same in omega (arith, pair, top, is))
        (cases_eq i n)

-- a key that is above all is nowhere
pub less_missing : (xs : List LiveKey) (k : ℕ) → AllLess xs k → IsNotThere xs k
less_missing [] k less = tt
less_missing (x ∷ xs) k less = ((λ e. let lt = less.0 in omega (arith, lt, e)), less_missing xs k less.1)

pub missing_found : (ts : List LiveKey) (k : ℕ) → IsNotThere ts k → live_at ts k ≡ None
missing_found [] k none = refl
missing_found (t ∷ ts) k none = cond-false (live_key t == k) (Some t) (live_at ts k) (ne_eqb (live_key t) k none.0) ∙ missing_found ts k none.1

pub spot_found : (ts : List LiveKey) (k i : ℕ) (d : LiveKey) → KeysRise ts → i < length ts → live_key (get_or ts i d) ≡ k → live_at ts k ≡ Some (get_or ts i d)
spot_found [] k i d rises lt is = absurd (omega (arith, lt))
spot_found (t ∷ ts) k zero d rises lt is = cond-true (live_key t == k) (Some t) (live_at ts k) (eq-eqb (live_key t) k is)
spot_found (t ∷ ts) k (suc i) d rises lt is =
    let less = above_at (live_key t) ts i d rises.0 (omega (arith, lt)) in
    let ne = ne_eqb (live_key t) k (λ e. omega (arith, e, is, less)) in
    cond-false (live_key t == k) (Some t) (live_at ts k) ne ∙ spot_found ts k i d rises.1 (omega (arith, lt)) is

hit : (k q : ℕ) → k ≡ q → is_at (nat_cmp k) q ≡ true
hit k q e = unsigned_tied k q ∙ eq-eqb k q e

pub placed_found : (b : List ℕ) (ts : List LiveKey) (k : ℕ) → place_at (places_of b ts) k ≡ option_map (live_place b) (live_at ts k)
placed_found b [] k = refl
placed_found b (t ∷ ts) k = ⊎_elim
    (λ (e : live_key t ≡ k). cond-true (is_at (nat_cmp k) (live_key t)) (Some (live_place b t)) (place_at (places_of b ts) k) (hit k (live_key t) (sym e)) ∙ ap (option_map (live_place b)) (sym (cond-true (live_key t == k) (Some t) (live_at ts k) (eq-eqb (live_key t) k e))))
    (λ (ne : live_key t ≢ k). cond-false (is_at (nat_cmp k) (live_key t)) (Some (live_place b t)) (place_at (places_of b ts) k) (apart k (live_key t) ne) ∙ placed_found b ts k ∙ ap (option_map (live_place b)) (sym (cond-false (live_key t == k) (Some t) (live_at ts k) (ne_eqb (live_key t) k ne))))
    (cases_eq (live_key t) k)

pub known_found : (b : List ℕ) (ts : List LiveKey) (k : ℕ) (o : Option LiveKey) → o ≡ live_at ts k → known_at (places_of b ts) k ≡ known_in (option_map (live_place b) o)
known_found b ts k o is = ap known_in (placed_found b ts k ∙ ap (option_map (live_place b)) (sym is))

pub no_room : (b : List ℕ) (ts : List LiveKey) (k : ℕ) → room_at (places_of b ts) k ≡ 0
no_room b ts k = ap room_in (placed_found b ts k) ∙ by (live_at ts k)
  where
    by : (o : Option LiveKey) → room_in (option_map (live_place b) o) ≡ 0
    by None = refl
    by (Some t) = refl

pub missing_turned : (ts : List LiveKey) (k : ℕ) (f : LiveFate) → IsNotThere ts k → turned ts k f ≡ ts
missing_turned [] k f none = refl
missing_turned (t ∷ ts) k f none = cond-false (live_key t == k) (with_live_fate f t ∷ ts) (t ∷ turned ts k f) (ne_eqb (live_key t) k none.0) ∙ ap (λ (xs : List LiveKey). t ∷ xs) (missing_turned ts k f none.1)

pub spot_turned : (ts : List LiveKey) (k i : ℕ) (f : LiveFate) (d : LiveKey) → KeysRise ts → i < length ts → live_key (get_or ts i d) ≡ k → slice_set ts i (with_live_fate f (get_or ts i d)) ≡ turned ts k f
spot_turned [] k i f d rises lt is = absurd (omega (arith, lt))
spot_turned (t ∷ ts) k zero f d rises lt is = sym (cond-true (live_key t == k) (with_live_fate f t ∷ ts) (t ∷ turned ts k f) (eq-eqb (live_key t) k is))
spot_turned (t ∷ ts) k (suc i) f d rises lt is =
    let less = above_at (live_key t) ts i d rises.0 (omega (arith, lt)) in
    let ne = ne_eqb (live_key t) k (λ e. omega (arith, e, is, less)) in
    ap (λ (xs : List LiveKey). t ∷ xs) (spot_turned ts k i f d rises.1 (omega (arith, lt)) is) ∙ sym (cond-false (live_key t == k) (with_live_fate f t ∷ ts) (t ∷ turned ts k f) ne)

all_turned : (P : LiveKey → Type 0) (ts : List LiveKey) (k : ℕ) (f : LiveFate) → ((t : LiveKey) → P t → P (with_live_fate f t)) → AllByRecursion P ts → AllByRecursion P (turned ts k f)
all_turned P [] k f keeps all = tt
all_turned P (t ∷ ts) k f keeps all = by (live_key t == k) (all_turned P ts k f keeps all.1)
  where
    by : (b : Bool) → AllByRecursion P (turned ts k f) → AllByRecursion P (cond b (with_live_fate f t ∷ ts) (t ∷ turned ts k f))
    by true rest = (keeps t all.0, all.1)
    by false rest = (all.0, rest)

pub rising_turned : (ts : List LiveKey) (k : ℕ) (f : LiveFate) → KeysRise ts → KeysRise (turned ts k f)
rising_turned [] k f rises = tt
rising_turned (t ∷ ts) k f rises = by (live_key t == k) (rising_turned ts k f rises.1) (all_turned (λ (x : LiveKey). live_key t < live_key x) ts k f (λ x lt. lt) rises.0)
  where
    by : (b : Bool) → KeysRise (turned ts k f) → AllByRecursion (λ (x : LiveKey). live_key t < live_key x) (turned ts k f) → KeysRise (cond b (with_live_fate f t ∷ ts) (t ∷ turned ts k f))
    by true rest above = (rises.0, rises.1)
    by false rest above = (above, rest)

pub turned_here : (ts : List LiveKey) (k : ℕ) (f : LiveFate) → live_at (turned ts k f) k ≡ option_map (with_live_fate f) (live_at ts k)
turned_here [] k f = refl
turned_here (t ∷ ts) k f = by (live_key t == k) refl (turned_here ts k f)
  where
    by : (b : Bool) → (live_key t == k) ≡ b → live_at (turned ts k f) k ≡ option_map (with_live_fate f) (live_at ts k) → live_at (cond b (with_live_fate f t ∷ ts) (t ∷ turned ts k f)) k ≡ option_map (with_live_fate f) (cond b (Some t) (live_at ts k))
    by true is rest = cond-true (live_key t == k) (Some (with_live_fate f t)) (live_at ts k) is
    by false is rest = cond-false (live_key t == k) (Some t) (live_at (turned ts k f) k) is ∙ rest

pub turned_other : (ts : List LiveKey) (k j : ℕ) (f : LiveFate) → j ≢ k → live_at (turned ts k f) j ≡ live_at ts j
turned_other [] k j f ne = refl
turned_other (t ∷ ts) k j f ne = by (live_key t == k) refl (turned_other ts k j f ne)
  where
    by : (b : Bool) → (live_key t == k) ≡ b → live_at (turned ts k f) j ≡ live_at ts j → live_at (cond b (with_live_fate f t ∷ ts) (t ∷ turned ts k f)) j ≡ live_at (t ∷ ts) j
    by true is rest =
        let e = eqb-true (live_key t) k is in
        let isnt = ne_eqb (live_key t) j (λ same. ne (sym same ∙ e)) in
        cond-false (live_key t == j) (Some (with_live_fate f t)) (live_at ts j) isnt ∙ sym (cond-false (live_key t == j) (Some t) (live_at ts j) isnt)
    by false is rest = ap (cond (live_key t == j) (Some t)) rest

all_more : (P : LiveKey → Type 0) (ts : List LiveKey) (t : LiveKey) → AllByRecursion P ts → P t → AllByRecursion P (ts ++ t ∷ [])
all_more P [] t all own = (own, tt)
all_more P (x ∷ ts) t all own = (all.0, all_more P ts t all.1 own)

rising_more : (ts : List LiveKey) (t : LiveKey) → KeysRise ts → AllLess ts (live_key t) → KeysRise (ts ++ t ∷ [])
rising_more [] t rises less = (tt, tt)
rising_more (x ∷ ts) t rises less = (all_more (λ (y : LiveKey). live_key x < live_key y) ts t rises.0 less.0, rising_more ts t rises.1 less.1)

pub more_here : (ts : List LiveKey) (t : LiveKey) → AllLess ts (live_key t) → live_at (ts ++ t ∷ []) (live_key t) ≡ Some t
more_here [] t less = cond-true (live_key t == live_key t) (Some t) None (eq-eqb (live_key t) (live_key t) refl)
more_here (x ∷ ts) t less = cond-false (live_key x == live_key t) (Some x) (live_at (ts ++ t ∷ []) (live_key t)) (ne_eqb (live_key x) (live_key t) (λ e. let lt = less.0 in omega (arith, lt, e))) ∙ more_here ts t less.1

pub more_other : (ts : List LiveKey) (t : LiveKey) (j : ℕ) → j ≢ live_key t → live_at (ts ++ t ∷ []) j ≡ live_at ts j
more_other [] t j ne = cond-false (live_key t == j) (Some t) None (ne_eqb (live_key t) j (λ e. ne (sym e)))
more_other (x ∷ ts) t j ne = ap (cond (live_key x == j) (Some x)) (more_other ts t j ne)

pub less_absent : (xs : List LiveKey) (k : ℕ) → AllLess xs k → live_at xs k ≡ None
less_absent [] k less = refl
less_absent (x ∷ xs) k less = cond-false (live_key x == k) (Some x) (live_at xs k) (ne_eqb (live_key x) k (λ e. let lt = less.0 in omega (arith, lt, e))) ∙ less_absent xs k less.1

-- The bytes of a value stay where they are when others come behind them.

abbrev pub bare_live : LiveKey
bare_live = record { high = 0; low = 0; version_low = 0; version_and_home = 0; fate = Moved; held = InBlock 0 }

part_more : (bytes more : List ℕ) (start size : ℕ) → start + size ≤ length bytes → take size (drop start (bytes ++ more)) ≡ take size (drop start bytes)
part_more bytes more start size le = ap (take size) (drop-append-le start bytes more (omega (arith, le))) ∙ take-append-le size (drop start bytes) more (omega (arith, le, length-drop start bytes))

pub body_more : (bytes more : List ℕ) (h : ValuePlace) → IsWithin bytes h → body_in (bytes ++ more) h ≡ body_in bytes h
body_more bytes more (InBlock p) there = refl
body_more bytes more (Beside start size) there = ap (λ (v : List ℕ). bodies.Embedded v) (part_more bytes more start size there)

within_more : (bytes more : List ℕ) (h : ValuePlace) → IsWithin bytes h → IsWithin (bytes ++ more) h
within_more bytes more (InBlock p) there = tt
within_more bytes more (Beside start size) there = let longer = length-append bytes more in omega (arith, longer, there)

all_within : (bytes more : List ℕ) (xs : List LiveKey) → AllByRecursion (λ (x : LiveKey). IsWithin bytes x.held) xs → AllByRecursion (λ (x : LiveKey). IsWithin (bytes ++ more) x.held) xs
all_within bytes more [] all = tt
all_within bytes more (x ∷ xs) all = (within_more bytes more x.held all.0, all_within bytes more xs all.1)

pub places_more : (bytes more : List ℕ) (xs : List LiveKey) → AllByRecursion (λ (x : LiveKey). IsWithin bytes x.held) xs → places_of (bytes ++ more) xs ≡ places_of bytes xs
places_more bytes more [] all = refl
places_more bytes more (x ∷ xs) all = λ i. (live_key x, record { known = valued_by x.fate (entry_version x) (entry_home x) (body_more bytes more x.held all.0 i); room = 0 }) ∷ places_more bytes more xs all.1 i

pub more_lives : (xs : List LiveKey) (bytes more : List ℕ) → AreLives xs bytes → AreLives xs (bytes ++ more)
more_lives xs bytes more are = record { rising = are.rising; within = all_within bytes more xs are.within }

pub pushed_lives : (xs : List LiveKey) (bytes more : List ℕ) (x : LiveKey) → AreLives xs bytes → AllLess xs (live_key x) → IsWithin (bytes ++ more) x.held → AreLives (xs ++ x ∷ []) (bytes ++ more)
pushed_lives xs bytes more x are less there = record {
  rising = rising_more xs x are.rising less;
  within = all_more (λ (y : LiveKey). IsWithin (bytes ++ more) y.held) xs x (all_within bytes more xs are.within) there;
}

pub pushed_turns : (xs : List LiveKey) (bytes more : List ℕ) (x : LiveKey) → AreLives xs bytes → AllLess xs (live_key x) → TurnsAt (places_of bytes xs) (places_of (bytes ++ more) (xs ++ x ∷ [])) (live_key x) (Some (live_place (bytes ++ more) x))
pushed_turns xs bytes more x are less = record {
  here = placed_found (bytes ++ more) (xs ++ x ∷ []) (live_key x) ∙ ap (option_map (live_place (bytes ++ more))) (more_here xs x less);
  others = λ j ne. placed_found (bytes ++ more) (xs ++ x ∷ []) j ∙ ap (option_map (live_place (bytes ++ more))) (more_other xs x j ne) ∙ sym (placed_found (bytes ++ more) xs j) ∙ ap (λ (ps : List (ℕ × Place)). place_at ps j) (places_more bytes more xs are.within);
}

-- What its calls make of such a key.

pub turned_lives : (xs : List LiveKey) (bytes : List ℕ) (k : ℕ) (f : LiveFate) → AreLives xs bytes → AreLives (turned xs k f) bytes
turned_lives xs bytes k f are = record {
  rising = rising_turned xs k f are.rising;
  within = all_turned (λ (x : LiveKey). IsWithin bytes x.held) xs k f (λ x there. there) are.within;
}

pub found_within : (xs : List LiveKey) (bytes : List ℕ) (i : ℕ) → AreLives xs bytes → i < length xs → IsWithin bytes (get_or xs i bare_live).held
found_within xs bytes i are lt = all_at (λ (x : LiveKey). IsWithin bytes x.held) xs i bare_live are.within lt

turned_turns : (bytes : List ℕ) (xs : List LiveKey) (k : ℕ) (f : LiveFate) (now : Option Place) → option_map (live_place bytes) (option_map (with_live_fate f) (live_at xs k)) ≡ now → TurnsAt (places_of bytes xs) (places_of bytes (turned xs k f)) k now
turned_turns bytes xs k f now is = record {
  here = placed_found bytes (turned xs k f) k ∙ ap (option_map (live_place bytes)) (turned_here xs k f) ∙ is;
  others = λ j ne. placed_found bytes (turned xs k f) j ∙ ap (option_map (live_place bytes)) (turned_other xs k j f ne) ∙ sym (placed_found bytes xs j);
}

pub same_at : (ps : List (ℕ × Place)) (k : ℕ) (now : Option Place) → place_at ps k ≡ now → TurnsAt ps ps k now
same_at ps k now is = record { here = is; others = λ j ne. refl }

pub live_cleared : (bytes : List ℕ) (xs : List LiveKey) (k : ℕ) → TurnsAt (places_of bytes xs) (places_of bytes (turned xs k Moved)) k (option_map cleared (place_at (places_of bytes xs) k))
live_cleared bytes xs k = turned_turns bytes xs k Moved (option_map cleared (place_at (places_of bytes xs) k)) (by (live_at xs k) ∙ ap (option_map cleared) (sym (placed_found bytes xs k)))
  where
    by : (o : Option LiveKey) → option_map (live_place bytes) (option_map (with_live_fate Moved) o) ≡ option_map cleared (option_map (live_place bytes) o)
    by None = refl
    by (Some x) = refl

gone_valued : (f : LiveFate) (v home w : ℕ) (b : Body) → v ≡ w → IsStanding f → valued_by Gone v home b ≡ option_map (without w) (valued_by f v home b)
gone_valued Stands v home w b e there = ap (λ (c : Bool). Some (record { version = v; body = b; standing = cond (not c) (standing_with v home false ∷ []) [] })) (sym (eq-eqb v w e))
gone_valued Gone v home w b e there = absurd there
gone_valued Moved v home w b e there = absurd there

pub live_gone : (bytes : List ℕ) (xs : List LiveKey) (k w : ℕ) (x : LiveKey) → Some x ≡ live_at xs k → entry_version x ≡ w → IsStanding x.fate → TurnsAt (places_of bytes xs) (places_of bytes (turned xs k Gone)) k (option_map (gone_place w) (place_at (places_of bytes xs) k))
live_gone bytes xs k w x is e there = turned_turns bytes xs k Gone (option_map (gone_place w) (place_at (places_of bytes xs) k)) (
    ap (λ (o : Option LiveKey). option_map (live_place bytes) (option_map (with_live_fate Gone) o)) (sym is)
    ∙ ap (λ (o : Option KeyRecord). Some (record { known = o; room = 0 })) (gone_valued x.fate (entry_version x) (entry_home x) w (body_in bytes x.held) e there)
    ∙ ap (λ (o : Option LiveKey). option_map (gone_place w) (option_map (live_place bytes) o)) is
    ∙ ap (option_map (gone_place w)) (sym (placed_found bytes xs k)))

pub live_stays : (bytes : List ℕ) (xs : List LiveKey) (k w : ℕ) (x : LiveKey) → Some x ≡ live_at xs k → option_map (without w) (valued bytes x) ≡ valued bytes x → TurnsAt (places_of bytes xs) (places_of bytes xs) k (option_map (gone_place w) (place_at (places_of bytes xs) k))
live_stays bytes xs k w x is same = same_at (places_of bytes xs) k (option_map (gone_place w) (place_at (places_of bytes xs) k)) (
    placed_found bytes xs k ∙ ap (option_map (live_place bytes)) (sym is)
    ∙ ap (λ (o : Option KeyRecord). Some (record { known = o; room = 0 })) (sym same)
    ∙ ap (λ (o : Option LiveKey). option_map (gone_place w) (option_map (live_place bytes) o)) is
    ∙ ap (option_map (gone_place w)) (sym (placed_found bytes xs k)))

pub live_absent : (bytes : List ℕ) (xs : List LiveKey) (k w : ℕ) → None ≡ live_at xs k → TurnsAt (places_of bytes xs) (places_of bytes xs) k (option_map (gone_place w) (place_at (places_of bytes xs) k))
live_absent bytes xs k w is = same_at (places_of bytes xs) k (option_map (gone_place w) (place_at (places_of bytes xs) k)) (none ∙ ap (option_map (gone_place w)) (sym none))
  where
    none : place_at (places_of bytes xs) k ≡ None
    none = placed_found bytes xs k ∙ ap (option_map (live_place bytes)) (sym is)

pub no_tombstone : (bytes : List ℕ) (h : ValuePlace) → is_tombstone (body_in bytes h) ≡ false
no_tombstone bytes (InBlock p) = refl
no_tombstone bytes (Beside start size) = refl

-- the one entry of a live key is not dead
pub not_dead : (bytes : List ℕ) (h : ValuePlace) (v : ℕ) (ss : List StandingEntry) → is_dead (record { version = v; body = body_in bytes h; standing = ss }) v ≡ false
not_dead bytes h v ss = ap (λ (b : Bool). b || ((v == v) && (is_tombstone (body_in bytes h) && stands_alone ss v))) (le-ltb v v (omega arith)) ∙ ap (λ (b : Bool). (v == v) && (b && stands_alone ss v)) (no_tombstone bytes h) ∙ ap (λ (b : Bool). b && false) (eq-eqb v v refl)

pub shows_valued : (f : LiveFate) (v home : ℕ) (b : Body) (l : Look) → (f ≡ Moved → ⊥) → ShowsBody b l → Shows (valued_by f v home b) l
shows_valued Stands v home b l ne shows = shows
shows_valued Gone v home b l ne shows = shows
shows_valued Moved v home b l ne shows = absurd (ne refl)

-- An entry that is gone, or whose key is elsewhere, is not to be told.
abbrev pub TellsNone : LiveFate → Type 0
TellsNone f = (bytes : List ℕ) (x : LiveKey) → untold_in (live_place bytes (with_live_fate f x)) ≡ 0

pub gone_tells : TellsNone Gone
gone_tells bytes x = refl

pub moved_tells : TellsNone Moved
moved_tells bytes x = refl

turned_fewer : (bytes : List ℕ) (ts : List LiveKey) (k : ℕ) (f : LiveFate) → TellsNone f → all_untold (places_of bytes (turned ts k f)) + untold_of (option_map (live_place bytes) (live_at ts k)) ≡ all_untold (places_of bytes ts)
turned_fewer bytes [] k f none = refl
turned_fewer bytes (x ∷ ts) k f none = by (live_key x == k) (turned_fewer bytes ts k f none)
  where
    by : (b : Bool) → all_untold (places_of bytes (turned ts k f)) + untold_of (option_map (live_place bytes) (live_at ts k)) ≡ all_untold (places_of bytes ts) → all_untold (places_of bytes (cond b (with_live_fate f x ∷ ts) (x ∷ turned ts k f))) + untold_of (option_map (live_place bytes) (cond b (Some x) (live_at ts k))) ≡ all_untold (places_of bytes (x ∷ ts))
    by true rest =
        let a = sum_by-cons untold_in (live_place bytes (with_live_fate f x)) (values_of (places_of bytes ts)) in
        let b = sum_by-cons untold_in (live_place bytes x) (values_of (places_of bytes ts)) in
        let zero_more = none bytes x in
        omega (arith, a, b, zero_more)
    by false rest =
        let a = sum_by-cons untold_in (live_place bytes x) (values_of (places_of bytes (turned ts k f))) in
        let b = sum_by-cons untold_in (live_place bytes x) (values_of (places_of bytes ts)) in
        omega (arith, a, b, rest)

pub turned_untold : (bytes : List ℕ) (ts : List LiveKey) (k : ℕ) (f : LiveFate) → TellsNone f → all_untold (places_of bytes (turned ts k f)) + untold_of (place_at (places_of bytes ts) k) ≡ all_untold (places_of bytes ts)
turned_untold bytes ts k f none = let fewer = turned_fewer bytes ts k f none in let at = ap untold_of (placed_found bytes ts k) in omega (arith, fewer, at)
