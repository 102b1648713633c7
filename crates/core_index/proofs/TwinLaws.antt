-- Older entries beside the records of their keys.
use Rattle.std.proofs.Common.{◌≡◌, ◌≢◌, ⊎_elim, ℕ, ◌+◌, ◌<◌, ◌≤◌, ◌==◌, nat_lt, Bool, true, false, cond, not, ◌&&◌, ◌||◌, List, [], ◌∷◌, ◌++◌, length, Option, Some, None, option_map, refl, sym, ◌∙◌, ap, subst, arith}
use Rattle.std.specs.Prelude.{is_some}
use Rattle.std.specs.List.{AllByRecursion}
use Rattle.std.specs.Map.{values_of}
use Rattle.std.specs.BTreeMap.{is_at}
use Rattle.std.specs.Ordering.{nat_cmp}
use Rattle.std.proofs.lemmas.List.Sums.{sum_by-cons}
use Rattle.std.proofs.lemmas.Bool.{eqb-true, eq-eqb, ne_eqb, le-ltb, ltb-true, cond-true, cond-false, cases_eq}
use Rattle.core_index.specs.declared.types.Fate.{Fate}
use Rattle.core_index.specs.declared.types.Fate.TheVariants.{Untold, Told, Gone, Moved}
use Rattle.core_index.specs.declared.types.StandingEntry.{StandingEntry}
use Rattle.core_index.specs.declared.types.Tombstone.{Tombstone}
use Rattle.core_index.specs.Records.{KeyRecord, Awaits, is_tombstone, is_dead, is_dead_in, stands_alone, standing_at, standing_with, list_of, last_of, without, others, count_untold}
use Rattle.core_index.specs.Marks.{Marks}
use Rattle.core_index.specs.Pairs.{Rise, top_by}
use Rattle.core_index.specs.Slots.{Place, LastChange, IsSlot, known_with, record_with}
use Rattle.core_index.specs.Tombs.{key_of, tomb_version, tomb_home, standing_left, standing_by, found_at, fated, with_fate, Rising, IsMissing}
use Rattle.core_index.specs.Index.{place_at, known_in, room_in, known_at, over, untold_in, untold_of, all_untold}
use Rattle.core_index.specs.Starts.{is_older, joined, OfLast, beside, twin_place, twin_at, placed, twins}
use Rattle.core_index.proofs.StepLaws.{apart}
use Rattle.core_index.proofs.TombLaws.{hit}
use Rattle.core_index.proofs.DeadLaws.{dead_older}
use Rattle.core_index.proofs.StandingLaws.{fewer_others, found_version}

-- Where a key's place is.

pub skip : (q : ℕ) (o : Option Place) (es : List (ℕ × Place)) (k : ℕ) → q ≢ k → place_at (placed q o ++ es) k ≡ place_at es k
skip q None es k ne = refl
skip q (Some p) es k ne = cond-false (is_at (nat_cmp k) q) (Some p) (place_at es k) (apart k q ne)

pub hits : (q : ℕ) (o : Option Place) (es : List (ℕ × Place)) (k : ℕ) → q ≡ k → place_at (placed q o ++ es) k ≡ over o (place_at es k)
hits q None es k e = refl
hits q (Some p) es k e = cond-true (is_at (nat_cmp k) q) (Some p) (place_at es k) (hit k q (sym e))

pub over_none : (o : Option Place) → over o None ≡ o
over_none None = refl
over_none (Some p) = refl

above_missing : (ts : List Tombstone) (q k : ℕ) → q ≡ k → AllByRecursion (λ (x : Tombstone). q < key_of x) ts → IsMissing ts k
above_missing [] q k e all = tt
above_missing (x ∷ ts) q k e all = ((λ same. let lt = all.0 in omega (arith, lt, e, same)), above_missing ts q k e all.1)

pub twins_missing : (ts : List Tombstone) (ps : List (ℕ × Place)) (k : ℕ) → IsMissing ts k → place_at (twins ts ps) k ≡ None
twins_missing [] ps k none = refl
twins_missing (t ∷ ts) ps k none = skip (key_of t) (twin_at (known_at ps (key_of t)) (Some t)) (twins ts ps) k none.0 ∙ twins_missing ts ps k none.1

found_first : (t : Tombstone) (ts : List Tombstone) (k : ℕ) → key_of t ≡ k → found_at (t ∷ ts) k ≡ Some t
found_first t ts k e = cond-true (key_of t == k) (Some t) (found_at ts k) (eq-eqb (key_of t) k e)

found_later : (t : Tombstone) (ts : List Tombstone) (k : ℕ) → key_of t ≢ k → found_at (t ∷ ts) k ≡ found_at ts k
found_later t ts k ne = cond-false (key_of t == k) (Some t) (found_at ts k) (ne_eqb (key_of t) k ne)

pub twins_at : (ts : List Tombstone) (ps : List (ℕ × Place)) (k : ℕ) → Rising ts → place_at (twins ts ps) k ≡ twin_at (known_at ps k) (found_at ts k)
twins_at [] ps k rises = refl
twins_at (t ∷ ts) ps k rises = ⊎_elim
    (λ (e : key_of t ≡ k).
    let p = twin_at (known_at ps (key_of t)) (Some t) in
    hits (key_of t) p (twins ts ps) k e ∙ ap (over p) (twins_missing ts ps k (above_missing ts (key_of t) k e rises.0)) ∙ over_none p ∙ ap (λ (j : ℕ). twin_at (known_at ps j) (Some t)) e ∙ ap (twin_at (known_at ps k)) (sym (found_first t ts k e)))
    (λ (ne : key_of t ≢ k). skip (key_of t) (twin_at (known_at ps (key_of t)) (Some t)) (twins ts ps) k ne ∙ twins_at ts ps k rises.1 ∙ ap (twin_at (known_at ps k)) (sym (found_later t ts k ne)))
    (cases_eq (key_of t) k)

-- what an older entry doesn't touch
pub twins_keep : (P : Option KeyRecord → Type 0) (ts : List Tombstone) (ps : List (ℕ × Place)) (k : ℕ) → ((t : Tombstone) (o : Option KeyRecord) → P o → P (beside t o)) → P (known_at ps k) → P (known_in (over (place_at (twins ts ps) k) (place_at ps k)))
twins_keep P [] ps k keeps is = is
twins_keep P (t ∷ ts) ps k keeps is = ⊎_elim
    (λ (e : key_of t ≡ k). subst (λ (o : Option Place). P (known_in (over o (place_at ps k)))) (sym (hits (key_of t) (twin_at (known_at ps (key_of t)) (Some t)) (twins ts ps) k e)) (by (is_older t (known_at ps (key_of t))) (subst (λ (j : ℕ). P (known_at ps j)) (sym e) is) (twins_keep P ts ps k keeps is)))
    (λ (ne : key_of t ≢ k). subst (λ (o : Option Place). P (known_in (over o (place_at ps k)))) (sym (skip (key_of t) (twin_at (known_at ps (key_of t)) (Some t)) (twins ts ps) k ne)) (twins_keep P ts ps k keeps is))
    (cases_eq (key_of t) k)
  where
    by : (b : Bool) → P (known_at ps (key_of t)) → P (known_in (over (place_at (twins ts ps) k) (place_at ps k))) → P (known_in (over (over (cond b (Some (twin_place (known_at ps (key_of t)) t)) None) (place_at (twins ts ps) k)) (place_at ps k)))
    by true own rest = keeps t (known_at ps (key_of t)) own
    by false own rest = rest

pub twins_room : (ts : List Tombstone) (ps : List (ℕ × Place)) (k : ℕ) (q : Option Place) → room_in q ≡ 0 → room_in (over (place_at (twins ts ps) k) q) ≡ 0
twins_room [] ps k q is = is
twins_room (t ∷ ts) ps k q is = ⊎_elim
    (λ (e : key_of t ≡ k). ap (λ (o : Option Place). room_in (over o q)) (hits (key_of t) (twin_at (known_at ps (key_of t)) (Some t)) (twins ts ps) k e) ∙ by (is_older t (known_at ps (key_of t))) (twins_room ts ps k q is))
    (λ (ne : key_of t ≢ k). ap (λ (o : Option Place). room_in (over o q)) (skip (key_of t) (twin_at (known_at ps (key_of t)) (Some t)) (twins ts ps) k ne) ∙ twins_room ts ps k q is)
    (cases_eq (key_of t) k)
  where
    by : (b : Bool) → room_in (over (place_at (twins ts ps) k) q) ≡ 0 → room_in (over (over (cond b (Some (twin_place (known_at ps (key_of t)) t)) None) (place_at (twins ts ps) k)) q) ≡ 0
    by true rest = refl
    by false rest = rest

-- a key whose record stays
pub twins_kept : (ts : List Tombstone) (ps qs : List (ℕ × Place)) (j : ℕ) → known_at qs j ≡ known_at ps j → place_at (twins ts qs) j ≡ place_at (twins ts ps) j
twins_kept [] ps qs j same = refl
twins_kept (t ∷ ts) ps qs j same = ⊎_elim
    (λ (e : key_of t ≡ j).
    let own : known_at qs (key_of t) ≡ known_at ps (key_of t) = ap (known_at qs) e ∙ same ∙ ap (known_at ps) (sym e) in
    hits (key_of t) (twin_at (known_at qs (key_of t)) (Some t)) (twins ts qs) j e ∙ ap (over (twin_at (known_at qs (key_of t)) (Some t))) (twins_kept ts ps qs j same) ∙ ap (λ (o : Option KeyRecord). over (twin_at o (Some t)) (place_at (twins ts ps) j)) own ∙ sym (hits (key_of t) (twin_at (known_at ps (key_of t)) (Some t)) (twins ts ps) j e))
    (λ (ne : key_of t ≢ j). skip (key_of t) (twin_at (known_at qs (key_of t)) (Some t)) (twins ts qs) j ne ∙ twins_kept ts ps qs j same ∙ sym (skip (key_of t) (twin_at (known_at ps (key_of t)) (Some t)) (twins ts ps) j ne))
    (cases_eq (key_of t) j)

-- The list stays where the record of one key changed that has no older entry.

abbrev pub ButFor : ℕ → List (ℕ × Place) → List (ℕ × Place) → Type 0
ButFor k ps qs = (j : ℕ) → j ≢ k → known_at qs j ≡ known_at ps j

twins_away : (ts : List Tombstone) (ps qs : List (ℕ × Place)) (k : ℕ) → IsMissing ts k → ButFor k ps qs → twins ts qs ≡ twins ts ps
twins_away [] ps qs k none same = refl
twins_away (t ∷ ts) ps qs k none same =
    let own = same (key_of t) none.0 in
    let rest = twins_away ts ps qs k none.1 same in
    ap (λ (o : Option KeyRecord). placed (key_of t) (twin_at o (Some t)) ++ twins ts qs) own ∙ ap (λ (xs : List (ℕ × Place)). placed (key_of t) (twin_at (known_at ps (key_of t)) (Some t)) ++ xs) rest

pub twins_same : (ts : List Tombstone) (ps qs : List (ℕ × Place)) (k : ℕ) → Rising ts → ButFor k ps qs → twin_at (known_at ps k) (found_at ts k) ≡ None → twin_at (known_at qs k) (found_at ts k) ≡ None → twins ts qs ≡ twins ts ps
twins_same [] ps qs k rises same was now = refl
twins_same (t ∷ ts) ps qs k rises same was now = ⊎_elim
    (λ (e : key_of t ≡ k).
    let new : twin_at (known_at qs (key_of t)) (Some t) ≡ None = ap (λ (j : ℕ). twin_at (known_at qs j) (Some t)) e ∙ ap (twin_at (known_at qs k)) (sym (found_first t ts k e)) ∙ now in
    let old : twin_at (known_at ps (key_of t)) (Some t) ≡ None = ap (λ (j : ℕ). twin_at (known_at ps j) (Some t)) e ∙ ap (twin_at (known_at ps k)) (sym (found_first t ts k e)) ∙ was in
    ap (λ (o : Option Place). placed (key_of t) o ++ twins ts qs) (new ∙ sym old) ∙ ap (λ (xs : List (ℕ × Place)). placed (key_of t) (twin_at (known_at ps (key_of t)) (Some t)) ++ xs) (twins_away ts ps qs k (above_missing ts (key_of t) k e rises.0) same))
    (λ (ne : key_of t ≢ k).
    let later = found_later t ts k ne in
    let rest = twins_same ts ps qs k rises.1 same (ap (twin_at (known_at ps k)) (sym later) ∙ was) (ap (twin_at (known_at qs k)) (sym later) ∙ now) in
    ap (λ (o : Option KeyRecord). placed (key_of t) (twin_at o (Some t)) ++ twins ts qs) (same (key_of t) ne) ∙ ap (λ (xs : List (ℕ × Place)). placed (key_of t) (twin_at (known_at ps (key_of t)) (Some t)) ++ xs) rest)
    (cases_eq (key_of t) k)

-- How many entries are to be told.

untold_placed : (q : ℕ) (o : Option Place) (es : List (ℕ × Place)) → all_untold (placed q o ++ es) ≡ untold_of o + all_untold es
untold_placed q None es = omega arith
untold_placed q (Some p) es = sum_by-cons untold_in p (values_of es)

abbrev pub NoMore : Option KeyRecord → Option KeyRecord → Type 0
NoMore new old = (t : Tombstone) → untold_of (twin_at new (Some t)) ≤ untold_of (twin_at old (Some t))

pub twins_fewer : (ts : List Tombstone) (ps qs : List (ℕ × Place)) (k : ℕ) → ButFor k ps qs → NoMore (known_at qs k) (known_at ps k) → all_untold (twins ts qs) ≤ all_untold (twins ts ps)
twins_fewer [] ps qs k same less = omega arith
twins_fewer (t ∷ ts) ps qs k same less =
    let a = untold_placed (key_of t) (twin_at (known_at qs (key_of t)) (Some t)) (twins ts qs) in
    let b = untold_placed (key_of t) (twin_at (known_at ps (key_of t)) (Some t)) (twins ts ps) in
    let rest = twins_fewer ts ps qs k same less in
    let own : untold_of (twin_at (known_at qs (key_of t)) (Some t)) ≤ untold_of (twin_at (known_at ps (key_of t)) (Some t)) = ⊎_elim
    (λ (e : key_of t ≡ k). subst (λ (j : ℕ). untold_of (twin_at (known_at qs j) (Some t)) ≤ untold_of (twin_at (known_at ps j) (Some t))) (sym e) (less t))
    (λ (ne : key_of t ≢ k). let one = ap (λ (o : Option KeyRecord). untold_of (twin_at o (Some t))) (same (key_of t) ne) in omega (arith, one))
    (cases_eq (key_of t) k) in
    omega (arith, a, b, rest, own)

never_older : (t : Tombstone) → is_older t None ≡ false
never_older t = ap (λ (b : Bool). is_some (standing_left t) && b) (le-ltb (tomb_version t) 0 (omega arith)) ∙ by (is_some (standing_left t))
  where
    by : (b : Bool) → (b && false) ≡ false
    by true = refl
    by false = refl

pub no_twin : (f : Option Tombstone) → twin_at None f ≡ None
no_twin None = refl
no_twin (Some t) = cond-false (is_older t None) (Some (twin_place None t)) None (never_older t)

over_untold : (o q : Option Place) → untold_of (over o q) ≤ untold_of o + untold_of q
over_untold None q = omega arith
over_untold (Some p) q = omega arith

-- a record that is taken out
pub twins_cleared : (ts : List Tombstone) (ps qs : List (ℕ × Place)) (k : ℕ) → ButFor k ps qs → known_at qs k ≡ None → all_untold (twins ts qs) + untold_of (place_at (twins ts ps) k) ≤ all_untold (twins ts ps)
twins_cleared [] ps qs k same none = omega arith
twins_cleared (t ∷ ts) ps qs k same none =
    let a = untold_placed (key_of t) (twin_at (known_at qs (key_of t)) (Some t)) (twins ts qs) in
    let b = untold_placed (key_of t) (twin_at (known_at ps (key_of t)) (Some t)) (twins ts ps) in
    let rest = twins_cleared ts ps qs k same none in
    ⊎_elim
    (λ (e : key_of t ≡ k).
    let zero : untold_of (twin_at (known_at qs (key_of t)) (Some t)) ≡ 0 = ap (λ (o : Option KeyRecord). untold_of (twin_at o (Some t))) (ap (known_at qs) e ∙ none) ∙ ap untold_of (no_twin (Some t)) in
    let at = ap untold_of (hits (key_of t) (twin_at (known_at ps (key_of t)) (Some t)) (twins ts ps) k e) in
    let both = over_untold (twin_at (known_at ps (key_of t)) (Some t)) (place_at (twins ts ps) k) in
    omega (arith, a, b, rest, zero, at, both))
    (λ (ne : key_of t ≢ k).
    let one = ap (λ (o : Option KeyRecord). untold_of (twin_at o (Some t))) (same (key_of t) ne) in
    let at = ap untold_of (skip (key_of t) (twin_at (known_at ps (key_of t)) (Some t)) (twins ts ps) k ne) in
    omega (arith, a, b, rest, one, at))
    (cases_eq (key_of t) k)

-- An older entry that is told, or gone.

abbrev untold_with : Option StandingEntry → ℕ → Option KeyRecord → ℕ
untold_with s v o = cond (is_some s && nat_lt v (last_of o)) (untold_in (record { known = option_map (joined (list_of s)) o; room = 0 })) 0

untold_twin : (t : Tombstone) (o : Option KeyRecord) → untold_of (twin_at o (Some t)) ≡ untold_with (standing_left t) (tomb_version t) o
untold_twin t o = by (is_older t o)
  where
    by : (b : Bool) → untold_of (cond b (Some (twin_place o t)) None) ≡ cond b (untold_in (twin_place o t)) 0
    by true = refl
    by false = refl

told_less : (t : Tombstone) (o : Option KeyRecord) → t.fate ≡ Untold → is_older t o ≡ true → untold_of (twin_at o (Some (with_fate Told t))) + 1 ≡ untold_of (twin_at o (Some t))
told_less t None new older = let never = never_older t in absurd (cc (never, older))
told_less t (Some r) new older =
    let v = tomb_version t in
    let h = tomb_home t in
    let s : standing_left t ≡ Some (standing_with v h false) = ap (λ (f : Fate). standing_by f v h) new in
    let lt : nat_lt v r.version ≡ true = sym (ap (λ (o : Option StandingEntry). is_some o && nat_lt v r.version) s) ∙ older in
    let was : untold_of (twin_at (Some r) (Some t)) ≡ 1 + count_untold r.standing = untold_twin t (Some r) ∙ ap (λ (o : Option StandingEntry). untold_with o v (Some r)) s ∙ cond-true (nat_lt v r.version) (1 + count_untold r.standing) 0 lt in
    let now : untold_of (twin_at (Some r) (Some (with_fate Told t))) ≡ count_untold r.standing = untold_twin (with_fate Told t) (Some r) ∙ cond-true (nat_lt v r.version) (0 + count_untold r.standing) 0 lt ∙ omega arith in
    omega (arith, was, now)

pub twins_told : (ts : List Tombstone) (ps : List (ℕ × Place)) (k : ℕ) (t : Tombstone) → found_at ts k ≡ Some t → t.fate ≡ Untold → is_older t (known_at ps k) ≡ true → all_untold (twins (fated ts k Told) ps) + 1 ≡ all_untold (twins ts ps)
twins_told [] ps k t is new older = absurd (cc is)
twins_told (x ∷ ts) ps k t is new older = by (key_of x == k) refl is (λ at. twins_told ts ps k t at new older)
  where
    by : (b : Bool) → (key_of x == k) ≡ b → cond b (Some x) (found_at ts k) ≡ Some t → (found_at ts k ≡ Some t → all_untold (twins (fated ts k Told) ps) + 1 ≡ all_untold (twins ts ps)) → all_untold (twins (cond b (with_fate Told x ∷ ts) (x ∷ fated ts k Told)) ps) + 1 ≡ all_untold (twins (x ∷ ts) ps)
    by true same at rest =
        let e : x ≡ t = cc at in
        let fate : x.fate ≡ Untold = ap (λ (y : Tombstone). y.fate) e ∙ new in
        let old : is_older x (known_at ps (key_of x)) ≡ true = ap (λ (j : ℕ). is_older x (known_at ps j)) (eqb-true (key_of x) k same) ∙ ap (λ (y : Tombstone). is_older y (known_at ps k)) e ∙ older in
        let less = told_less x (known_at ps (key_of x)) fate old in
        let a = untold_placed (key_of x) (twin_at (known_at ps (key_of x)) (Some (with_fate Told x))) (twins ts ps) in
        let b = untold_placed (key_of x) (twin_at (known_at ps (key_of x)) (Some x)) (twins ts ps) in
        omega (arith, less, a, b)
    by false other at rest =
        let less = rest at in
        let a = untold_placed (key_of x) (twin_at (known_at ps (key_of x)) (Some x)) (twins (fated ts k Told) ps) in
        let b = untold_placed (key_of x) (twin_at (known_at ps (key_of x)) (Some x)) (twins ts ps) in
        omega (arith, less, a, b)

pub twins_gone : (ts : List Tombstone) (ps : List (ℕ × Place)) (k : ℕ) → all_untold (twins (fated ts k Gone) ps) ≤ all_untold (twins ts ps)
twins_gone [] ps k = omega arith
twins_gone (x ∷ ts) ps k = by (key_of x == k) (twins_gone ts ps k)
  where
    by : (b : Bool) → all_untold (twins (fated ts k Gone) ps) ≤ all_untold (twins ts ps) → all_untold (twins (cond b (with_fate Gone x ∷ ts) (x ∷ fated ts k Gone)) ps) ≤ all_untold (twins (x ∷ ts) ps)
    by true rest =
        let a = untold_placed (key_of x) (twin_at (known_at ps (key_of x)) (Some (with_fate Gone x))) (twins ts ps) in
        let b = untold_placed (key_of x) (twin_at (known_at ps (key_of x)) (Some x)) (twins ts ps) in
        let none : untold_of (twin_at (known_at ps (key_of x)) (Some (with_fate Gone x))) ≡ 0 = refl in
        omega (arith, a, b, none)
    by false rest =
        let a = untold_placed (key_of x) (twin_at (known_at ps (key_of x)) (Some x)) (twins (fated ts k Gone) ps) in
        let b = untold_placed (key_of x) (twin_at (known_at ps (key_of x)) (Some x)) (twins ts ps) in
        omega (arith, a, b, rest)

-- A record of which the last version's entry alone stands, with an older entry before it.

lone_none : (ss : List StandingEntry) (n w : ℕ) → AllByRecursion (λ (s : StandingEntry). s.version ≡ n) ss → n ≢ w → standing_at ss w ≡ None
lone_none [] n w all ne = refl
lone_none (s ∷ ss) n w all ne = cond-false (s.version == w) (Some s) (standing_at ss w) (ne_eqb s.version w (λ e. ne (sym all.0 ∙ e))) ∙ lone_none ss n w all.1 ne

lone_others : (ss : List StandingEntry) (n w : ℕ) → AllByRecursion (λ (s : StandingEntry). s.version ≡ n) ss → n ≢ w → others w ss ≡ ss
lone_others [] n w all ne = refl
lone_others (s ∷ ss) n w all ne = ap (λ (b : Bool). cond (not b) (s ∷ others w ss) (others w ss)) (ne_eqb s.version w (λ e. ne (sym all.0 ∙ e))) ∙ ap (λ (xs : List StandingEntry). s ∷ xs) (lone_others ss n w all.1 ne)

not_alone : (s : StandingEntry) (ss : List StandingEntry) (w : ℕ) → s.version ≢ w → stands_alone (s ∷ ss) w ≡ false
not_alone s ss w ne = ap (λ (b : Bool). b && stands_alone ss w) (ne_eqb s.version w ne)

-- the last version is not dead while an older one stands
last_lives : (s : StandingEntry) (r : KeyRecord) → s.version ≢ r.version → is_dead (joined (s ∷ []) r) r.version ≡ false
last_lives s r ne = ap (λ (b : Bool). nat_lt r.version r.version || ((r.version == r.version) && (is_tombstone r.body && b))) (not_alone s r.standing r.version ne) ∙ ap (λ (b : Bool). b || ((r.version == r.version) && (is_tombstone r.body && false))) (le-ltb r.version r.version (omega arith)) ∙ by (r.version == r.version) (is_tombstone r.body)
  where
    by : (a b : Bool) → (a && (b && false)) ≡ false
    by true true = refl
    by true false = refl
    by false b = refl

and_false : (b : Bool) → (b && false) ≡ false
and_false true = refl
and_false false = refl

pub twin_dead : (s : StandingEntry) (r : KeyRecord) (w : ℕ) → s.version < r.version → OfLast (Some r) → is_dead_in (Some (joined (s ∷ []) r)) w ≡ (s.version == w)
twin_dead s r w lt lone = by (s.version == w) refl
  where
    by : (b : Bool) → (s.version == w) ≡ b → (is_some (cond b (Some s) (standing_at r.standing w)) && is_dead (joined (s ∷ []) r) w) ≡ b
    by true same = let e = eqb-true s.version w same in dead_older (joined (s ∷ []) r) w (omega (arith, e, lt))
    by false other = ⊎_elim
        (λ (e : r.version ≡ w). ap (λ (b : Bool). is_some (standing_at r.standing w) && b) (ap (is_dead (joined (s ∷ []) r)) (sym e) ∙ last_lives s r (λ same. omega (arith, same, lt))) ∙ and_false (is_some (standing_at r.standing w)))
        (λ (ne : r.version ≢ w). ap (λ (o : Option StandingEntry). is_some o && is_dead (joined (s ∷ []) r) w) (lone_none r.standing r.version w lone.0 ne))
        (cases_eq r.version w)

-- who waits is the older one
pub record OlderWaits (s : StandingEntry) (home w : ℕ) : Type 0 where
  pub version : s.version ≡ w
  pub entry : s ≡ standing_with w home false

pub twin_waits : (s : StandingEntry) (r : KeyRecord) (home w : ℕ) → s.version < r.version → OfLast (Some r) → Awaits (Some (joined (s ∷ []) r)) home w → OlderWaits s home w
twin_waits s r home w lt lone waits =
    let e : joined (s ∷ []) r ≡ waits.found = let has = waits.has in cc has in
    let stands : standing_at (s ∷ r.standing) w ≡ Some (standing_with w home false) = ap (λ (x : KeyRecord). standing_at x.standing w) e ∙ waits.stands in
    let dead : is_dead (joined (s ∷ []) r) w ≡ true = ap (λ (x : KeyRecord). is_dead x w) e ∙ waits.dead in
    let both : is_dead_in (Some (joined (s ∷ []) r)) w ≡ true = ap (λ (o : Option StandingEntry). is_some o && is_dead (joined (s ∷ []) r) w) stands ∙ dead in
    let same : (s.version == w) ≡ true = sym (twin_dead s r w lt lone) ∙ both in
    let own : Some s ≡ Some (standing_with w home false) = sym (cond-true (s.version == w) (Some s) (standing_at r.standing w) same) ∙ stands in
    record { version = eqb-true s.version w same; entry = cc own }

pub older_waits : (s : StandingEntry) (r : KeyRecord) (home w : ℕ) → s ≡ standing_with w home false → w < r.version → Awaits (Some (joined (s ∷ []) r)) home w
older_waits s r home w is lt = record {
  found = joined (s ∷ []) r;
  has = refl;
  stands = cond-true (s.version == w) (Some s) (standing_at r.standing w) (eq-eqb s.version w (ap (λ (x : StandingEntry). x.version) is)) ∙ ap (λ (x : StandingEntry). Some x) is;
  dead = dead_older (joined (s ∷ []) r) w lt;
}

-- the older one is taken out
pub without_older : (s : StandingEntry) (r : KeyRecord) → s.version < r.version → OfLast (Some r) → without s.version (joined (s ∷ []) r) ≡ r
without_older s r lt lone =
    let front : others s.version (s ∷ r.standing) ≡ others s.version r.standing = ap (λ (b : Bool). cond (not b) (s ∷ others s.version r.standing) (others s.version r.standing)) (eq-eqb s.version s.version refl) in
    let rest = lone_others r.standing r.version s.version lone.0 (λ e. omega (arith, e, lt)) in
    ap (λ (xs : List StandingEntry). record { version = r.version; body = r.body; standing = xs }) (front ∙ rest)

-- another one is
pub without_last : (s : StandingEntry) (r : KeyRecord) (w : ℕ) → s.version ≢ w → without w (joined (s ∷ []) r) ≡ joined (s ∷ []) (without w r)
without_last s r w ne = ap (λ (b : Bool). record { version = r.version; body = r.body; standing = cond (not b) (s ∷ others w r.standing) (others w r.standing) }) (ne_eqb s.version w ne)

-- fewer entries are to be told then
pub no_more_without : (o : Option KeyRecord) (w : ℕ) → NoMore (option_map (without w) o) o
no_more_without None w t = omega arith
no_more_without (Some r) w t =
    let less = fewer_others r.standing w in
    by (is_older t (Some r)) (standing_left t) less
  where
    by : (b : Bool) (s : Option StandingEntry) → count_untold (others w r.standing) ≤ count_untold r.standing → untold_of (cond b (Some (record { known = Some (joined (list_of s) (without w r)); room = 0 })) None) ≤ untold_of (cond b (Some (record { known = Some (joined (list_of s) r); room = 0 })) None)
    by true None less = less
    by true (Some s) less = omega (arith, less)
    by false s less = omega arith

-- the parts of a key with an older entry
pub record Twin (t : Tombstone) (o : Option KeyRecord) : Type 0 where
  pub last : KeyRecord
  pub last_is : o ≡ Some last
  pub entry : StandingEntry
  pub entry_is : standing_left t ≡ Some entry
  pub version : entry.version ≡ tomb_version t
  pub below : tomb_version t < last.version

pub twin_parts : (t : Tombstone) (o : Option KeyRecord) → is_older t o ≡ true → Twin t o
twin_parts t None older = let never = never_older t in absurd (cc (never, older))
twin_parts t (Some r) older = by t.fate refl older
  where
    by : (f : Fate) → t.fate ≡ f → (is_some (standing_by f (tomb_version t) (tomb_home t)) && nat_lt (tomb_version t) r.version) ≡ true → Twin t (Some r)
    by Untold is lt = record { last = r; last_is = refl; entry = standing_with (tomb_version t) (tomb_home t) false; entry_is = ap (λ (f : Fate). standing_by f (tomb_version t) (tomb_home t)) is; version = refl; below = ltb-true (tomb_version t) r.version lt }
    by Told is lt = record { last = r; last_is = refl; entry = standing_with (tomb_version t) (tomb_home t) true; entry_is = ap (λ (f : Fate). standing_by f (tomb_version t) (tomb_home t)) is; version = refl; below = ltb-true (tomb_version t) r.version lt }
    by Gone is lt = absurd (cc lt)
    by Moved is lt = absurd (cc lt)

pub twin_known : (t : Tombstone) (o : Option KeyRecord) (w : Twin t o) → beside t o ≡ Some (joined (w.entry ∷ []) w.last)
twin_known t o w = ap (beside t) w.last_is ∙ ap (λ (s : Option StandingEntry). Some (joined (list_of s) w.last)) w.entry_is

-- What stands beside the older entry.

only_one : (ss : List StandingEntry) (v : ℕ) → AllByRecursion (λ (s : StandingEntry). s.version ≡ v) ss → length ss ≤ 1 → list_of (standing_at ss v) ≡ ss
only_one [] v all le = refl
only_one (s ∷ []) v all le = ap list_of (cond-true (s.version == v) (Some s) None (eq-eqb s.version v all.0))
only_one (s ∷ x ∷ ss) v all le = absurd (omega (arith, le))

only_version : (ss : List StandingEntry) (v : ℕ) (o : Option StandingEntry) → o ≡ standing_at ss v → (s : StandingEntry) → o ≡ Some s → s.version ≡ v
only_version ss v o is s some = found_version ss v s (sym is ∙ some)

pub only_rises : (ss : List StandingEntry) (v : ℕ) (older : StandingEntry) (o : Option StandingEntry) → o ≡ standing_at ss v → older.version < v → Rise (Some older) o
only_rises ss v older None is lt = tt
only_rises ss v older (Some s) is lt = let e = only_version ss v (Some s) is s refl in omega (arith, e, lt)

pub beside_slot : (h : Option LastChange) (ss : List StandingEntry) (m : Marks) (older : StandingEntry) (only : Option StandingEntry) (v : ℕ) → v ≡ last_of (known_with h ss) → older.version < v → only ≡ standing_at ss v → m.items ≡ older ∷ list_of only → m.top ≡ top_by (Some older) only → IsSlot h m
beside_slot None ss m older only v last lt is items top = absurd (omega (arith, last, lt))
beside_slot (Some c) ss m older only v last lt is items top = by only is items top
  where
    by : (o : Option StandingEntry) → o ≡ standing_at ss v → m.items ≡ older ∷ list_of o → m.top ≡ top_by (Some older) o → IsSlot (Some c) m
    by None found all high = record {
      below = subst (λ (xs : List StandingEntry). AllByRecursion (λ (s : StandingEntry). s.version ≤ c.version) xs) (sym all) (omega (arith, last, lt), tt);
      top = omega (arith, high, last, lt);
    }
    by (Some s) found all high =
        let e = only_version ss v (Some s) found s refl in
        record {
          below = subst (λ (xs : List StandingEntry). AllByRecursion (λ (x : StandingEntry). x.version ≤ c.version) xs) (sym all) (omega (arith, last, lt), (omega (arith, e, last), tt));
          top = omega (arith, high, e, last);
        }

pub beside_known : (h : Option LastChange) (ss items : List StandingEntry) (older : StandingEntry) (only : Option StandingEntry) (v : ℕ) → v ≡ last_of (known_with h ss) → OfLast (known_with h ss) → only ≡ standing_at ss v → items ≡ older ∷ list_of only → known_with h items ≡ option_map (joined (older ∷ [])) (known_with h ss)
beside_known None ss items older only v last lone is all = refl
beside_known (Some c) ss items older only v last lone is all =
    let one : list_of only ≡ ss = ap list_of (is ∙ ap (standing_at ss) last) ∙ only_one ss c.version lone.0 lone.1 in
    ap (λ (xs : List StandingEntry). Some (record_with c xs)) (all ∙ ap (λ (xs : List StandingEntry). older ∷ xs) one)
