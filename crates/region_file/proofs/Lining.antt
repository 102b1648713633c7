-- A set of lines, as lines come in, are sorted and go.
use Rattle.std.proofs.Common.{◌≡◌, ⊎_elim, ℕ, suc, ◌+◌, ◌<◌, ◌≤◌, Bool, true, false, List, [], ◌∷◌, ◌++◌, length, get_or, replicate, refl, sym, ◌∙◌, ap, subst, arith, length-append, length-set}
use Rattle.std.proofs.Math.ListN.{set}
use Rattle.std.proofs.lemmas.Bool.{cases_eq, cases_lt}
use Rattle.std.proofs.lemmas.List.{get_or_push, get_or_append_left, get_or-set_same, get_or-set_other, get_or-replicate, get_or_past, length-replicate}
use Rattle.std.proofs.lemmas.List.Elements.{All-get_or, All-from_get_or}
use Rattle.std.proofs.lemmas.List.Sorted.{All-permutation, IsPermutation-sym, length_permutation}
use Rattle.std.specs.List.{All}
use Rattle.std.specs.List.Sorted.{IsPermutation}
use Rattle.std.proofs.lemmas.List.Sums.{sum_by-cons, sum_by-set}
use Rattle.region_file.specs.Marks.{one_if, marked_in, is_marked, IsUnlisted, KeepsLines}

true_or_false : (b : Bool) → (b ≡ true → ⊥) → b ≡ false
true_or_false b = elim b as (λ v. (v ≡ true → ⊥) → v ≡ false) [ true ↦ λ no. absurd (no refl) | false ↦ λ no. refl ]

pub at_most_all : (marks : List Bool) → marked_in marks ≤ length marks
at_most_all [] = omega arith
at_most_all (true ∷ marks) = let h = at_most_all marks in let m = sum_by-cons one_if true marks in omega (arith, h, m)
at_most_all (false ∷ marks) = let h = at_most_all marks in let m = sum_by-cons one_if false marks in omega (arith, h, m)

pub no_marks : (marks : List Bool) → ((k : ℕ) → is_marked marks k ≡ false) → marked_in marks ≡ 0
no_marks [] none = refl
no_marks (true ∷ marks) none = let h : true ≡ false = none 0 in absurd (cc)
no_marks (false ∷ marks) none = let h = no_marks marks (λ k. none (suc k)) in let m = sum_by-cons one_if false marks in omega (arith, h, m)

-- one more is marked
pub one_more : (marks : List Bool) (line : ℕ) → line < length marks → is_marked marks line ≡ false → marked_in (set marks line true) ≡ marked_in marks + 1
one_more marks line lt was = let h = sum_by-set one_if marks line true false lt in let z : one_if (get_or marks line false) ≡ 0 = ap one_if was in omega arith

-- so there is room in the list for it
pub room_for : (marks : List Bool) (lines : List ℕ) (line : ℕ) → KeepsLines marks lines → line < length marks → is_marked marks line ≡ false → length lines < length marks
room_for marks lines line keeps lt was =
    let more = one_more marks line lt was in
    let most = at_most_all (set marks line true) in
    let same = length-set marks line true in
    let once = keeps.once in
    omega arith

-- a line comes in
pub keeps_more : (marks marks' : List Bool) (lines lines' : List ℕ) (line : ℕ) → KeepsLines marks lines → line < length marks → is_marked marks line ≡ false
    → marks' ≡ set marks line true → lines' ≡ lines ++ line ∷ [] → KeepsLines marks' lines'
keeps_more marks marks' lines lines' line keeps lt was is is' = record {
  listed = λ k no. ⊎_elim (λ e. absurd (no (length lines) (omega (arith, count)) (at_end ∙ sym e))) (λ ne. other k ne ∙ keeps.listed k (λ j lt' e. no j (omega (arith, count)) (before j lt' ∙ e))) (cases_eq k line);
  marked = λ j lt'. ⊎_elim (λ e. subst (λ (n : ℕ). is_marked marks' (get_or lines' n 0) ≡ true) (sym e) (subst (λ (n : ℕ). is_marked marks' n ≡ true) (sym at_end) now)) (λ ne. old j (omega (arith, count))) (cases_eq j (length lines));
  once = let more = one_more marks line lt was in let once = keeps.once in let same : marked_in marks' ≡ marked_in (set marks line true) = ap marked_in is in omega (arith, count);
}
  where
    count : length lines' ≡ length lines + 1
    count = ap length is' ∙ omega (arith, length-append lines (line ∷ []))

    at_end : get_or lines' (length lines) 0 ≡ line
    at_end = ap (λ (l : List ℕ). get_or l (length lines) 0) is' ∙ get_or_push lines line 0 (length lines) refl

    before : (j : ℕ) → j < length lines → get_or lines' j 0 ≡ get_or lines j 0
    before j lt' = ap (λ (l : List ℕ). get_or l j 0) is' ∙ get_or_append_left lines (line ∷ []) 0 j lt'

    now : is_marked marks' line ≡ true
    now = ap (λ (m : List Bool). is_marked m line) is ∙ get_or-set_same marks line true false lt

    other : (k : ℕ) → (k ≡ line → ⊥) → is_marked marks' k ≡ is_marked marks k
    other k ne = ap (λ (m : List Bool). is_marked m k) is ∙ get_or-set_other marks line k true false ne

    old : (j : ℕ) → j < length lines → is_marked marks' (get_or lines' j 0) ≡ true
    old j lt' =
        let was' = keeps.marked j lt' in
        let ne : get_or lines j 0 ≡ line → ⊥ = λ e. let clash : true ≡ false = sym was' ∙ ap (λ (n : ℕ). is_marked marks n) e ∙ was in absurd (cc) in
        ap (λ (n : ℕ). is_marked marks' n) (before j lt') ∙ other (get_or lines j 0) ne ∙ was'

-- the list in another order
pub keeps_sorted : (marks : List Bool) (lines lines' : List ℕ) → IsPermutation lines lines' → KeepsLines marks lines → KeepsLines marks lines'
keeps_sorted marks lines lines' moved keeps =
    let apart : (k : ℕ) → IsUnlisted lines' k → All (λ x. x ≡ k → ⊥) lines' = λ k no. All-from_get_or (λ x. x ≡ k → ⊥) lines' 0 no in
    let all : All (λ x. is_marked marks x ≡ true) lines = All-from_get_or (λ x. is_marked marks x ≡ true) lines 0 keeps.marked in
    record {
      listed = λ k no. keeps.listed k (λ j lt. All-get_or (λ x. x ≡ k → ⊥) lines j 0 lt (All-permutation (λ x. x ≡ k → ⊥) lines' lines (IsPermutation-sym lines lines' moved) (apart k no)));
      marked = λ j lt. All-get_or (λ x. is_marked marks x ≡ true) lines' j 0 lt (All-permutation (λ x. is_marked marks x ≡ true) lines lines' moved all);
      once = length_permutation lines lines' moved ∙ keeps.once;
    }

-- the marks of all lines in the list are taken away
pub all_gone : (marks marks' : List Bool) (lines : List ℕ) → KeepsLines marks lines → ((k : ℕ) → is_marked marks' k ≡ true → is_marked marks k ≡ true)
    → ((j : ℕ) → j < length lines → is_marked marks' (get_or lines j 0) ≡ false) → (k : ℕ) → is_marked marks' k ≡ false
all_gone marks marks' lines keeps kept gone k =
    true_or_false (is_marked marks' k) (λ now.
    let clash : true ≡ false = sym (kept k now) ∙ keeps.listed k (λ j lt e. let c : true ≡ false = sym now ∙ sym (ap (λ (n : ℕ). is_marked marks' n) e) ∙ gone j lt in absurd (cc)) in
    absurd (cc))

-- nothing is marked
pub keeps_none : (marks : List Bool) → ((k : ℕ) → is_marked marks k ≡ false) → KeepsLines marks []
keeps_none marks none = record {
  listed = λ k no. none k;
  marked = λ j lt. absurd (omega arith);
  once = sym (no_marks marks none);
}

pub unmarked : (n : ℕ) (k : ℕ) → is_marked (replicate n false) k ≡ false
unmarked n k = ⊎_elim (λ lt. get_or-replicate n k false false lt) (λ le. get_or_past (replicate n false) k false (omega (arith, length-replicate {A = Bool} n false))) (cases_lt k n)
