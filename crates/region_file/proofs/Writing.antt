-- What a write of a run of lines leaves in the file.
use Rattle.std.proofs.Common.{◌≡◌, ◌⊎◌, inl, inr, ⊎_elim, ℕ, ◌+◌, ◌-◌, ◌*◌, ◌/◌, ◌≤◌, ◌<◌, ◌&&◌, nat_le, nat_lt, List, [], ◌∷◌, length, get_or, take, drop, refl, ◌∙◌, ap, arith, length-drop}
use Rattle.std.proofs.lemmas.Bool.{cases_lt, cond-true, cond-false}
use Rattle.std.proofs.lemmas.Bool.Decides.{nat_tests}
use Rattle.std.proofs.lemmas.List.{get_or-take, get_or-drop, length-take-le}
use Rattle.region_file.specs.Calls.{Call, wrote, byte_after, OnlyWrites}
use Rattle.region_file.specs.LineRuns.{IsClear, AreRuns}

length_run : (bytes : List ℕ) (a n : ℕ) → 64 * a + 64 * n ≤ length bytes → length (take (64 * n) (drop (64 * a) bytes)) ≡ 64 * n
length_run bytes a n fits = length-take-le (64 * n) (drop (64 * a) bytes) (omega (arith, length-drop (64 * a) bytes))

in_run : (bytes : List ℕ) (a n k : ℕ) → k < 64 * n → get_or (take (64 * n) (drop (64 * a) bytes)) k 0 ≡ get_or bytes (64 * a + k) 0
in_run bytes a n k lt = get_or-take (64 * n) (drop (64 * a) bytes) k 0 lt ∙ get_or-drop (64 * a) bytes k 0

covered : (disk : ℕ → ℕ) (at : ℕ) (run : List ℕ) (calls : List Call) (b : ℕ) → at ≤ b → b < at + length run → byte_after disk (wrote at run ∷ calls) b ≡ get_or run (b - at) 0
covered disk at run calls b low high = cond-true (nat_le at b && nat_lt b (at + length run)) _ _ (grind (arith, nat_tests))

beside : (disk : ℕ → ℕ) (at : ℕ) (run : List ℕ) (calls : List Call) (b : ℕ) → (b < at) ⊎ (at + length run ≤ b) → byte_after disk (wrote at run ∷ calls) b ≡ byte_after disk calls b
beside disk at run calls b out = cond-false (nat_le at b && nat_lt b (at + length run)) _ _ (⊎_elim (λ lt. grind (arith, nat_tests)) (λ ge. grind (arith, nat_tests)) out)

one_write : (before after : List Call) (at : ℕ) (run : List ℕ) → OnlyWrites before after → OnlyWrites before (wrote at run ∷ after)
one_write before after at run only = (wrote at run ∷ only.0, ap (λ (l : List Call). wrote at run ∷ l) only.1, only.2)

pub no_runs : (start : ℕ) (lines bytes : List ℕ) (before : List Call) → AreRuns start lines bytes 0 before before
no_runs start lines bytes before = record {
  writes = ([], refl, tt);
  own = λ disk j byte lt in_line. absurd (omega arith);
  others = λ disk byte clear. refl;
}

module _ (start : ℕ) (lines bytes : List ℕ) (from n : ℕ) where
  abbrev first : ℕ
  first = get_or lines from 0

  abbrev run : List ℕ
  run = take (64 * n) (drop (64 * get_or lines from 0) bytes)

  abbrev IsRun : Type 0
  IsRun = (j : ℕ) → from + j < from + n → get_or lines (from + j) 0 ≡ get_or lines from 0 + j

  line_in : IsRun → (j : ℕ) → from ≤ j → j < from + n → get_or lines j 0 ≡ first + (j - from)
  line_in next j low high =
      let e : j ≡ from + (j - from) = omega arith in
      ap (λ (k : ℕ). get_or lines k 0) e ∙ next (j - from) (omega arith)

  earlier : IsRun → (j byte : ℕ) → j < from + n → byte < 64
      → (start + (64 * get_or lines j 0 + byte) < start + 64 * first) ⊎ (start + 64 * first + 64 * n ≤ start + (64 * get_or lines j 0 + byte)) → j < from
  earlier next j byte lt in_line out =
      ⊎_elim (λ low. low) (λ ge. absurd (let e = line_in next j ge lt in ⊎_elim (λ low. omega arith) (λ high. omega arith) out)) (cases_lt j from)

  outside : IsRun → (byte : ℕ) → IsClear start lines (from + n) byte → (byte < start + 64 * first) ⊎ (start + 64 * first + 64 * n ≤ byte)
  outside next byte clear =
      ⊎_elim (λ low. inl low) (λ ge. ⊎_elim (λ lt.
      let i = (byte - (start + 64 * first)) / 64 in
      let below : i < n = omega arith in
      let e : get_or lines (from + i) 0 ≡ first + i = next i (omega arith) in
      absurd (⊎_elim (λ low. omega arith) (λ high. omega arith) (clear (from + i) (omega arith)))) (λ high. inr high) (cases_lt byte (start + 64 * first + 64 * n))) (cases_lt byte (start + 64 * first))

  module _ (before after : List Call) (are : AreRuns start lines bytes from before after) (fits : 64 * first + 64 * n ≤ length bytes) (next : IsRun) where
    size : length run ≡ 64 * n
    size = length_run bytes first n fits

    own_bytes : (disk : ℕ → ℕ) (j byte : ℕ) → j < from + n → byte < 64
        → byte_after disk (wrote (start + 64 * first) run ∷ after) (start + (64 * get_or lines j 0 + byte)) ≡ get_or bytes (64 * get_or lines j 0 + byte) 0
    own_bytes disk j byte lt in_line =
        let b = start + (64 * get_or lines j 0 + byte) in
        let n_is = size in
        ⊎_elim (λ low. beside disk (start + 64 * first) run after b (inl low) ∙ are.own disk j byte (earlier next j byte lt in_line (inl low)) in_line)
        (λ low. ⊎_elim (λ high. covered disk (start + 64 * first) run after b low (omega arith) ∙ in_run bytes first n (b - (start + 64 * first)) (omega arith) ∙ ap (λ (k : ℕ). get_or bytes k 0) (omega arith))
        (λ high. beside disk (start + 64 * first) run after b (inr (omega arith)) ∙ are.own disk j byte (earlier next j byte lt in_line (inr high)) in_line) (cases_lt b (start + 64 * first + 64 * n)))
        (cases_lt b (start + 64 * first))

    other_bytes : (disk : ℕ → ℕ) (byte : ℕ) → IsClear start lines (from + n) byte → byte_after disk (wrote (start + 64 * first) run ∷ after) byte ≡ byte_after disk before byte
    other_bytes disk byte clear =
        let n_is = size in
        beside disk (start + 64 * first) run after byte (⊎_elim (λ low. inl low) (λ high. inr (omega arith)) (outside next byte clear)) ∙ are.others disk byte (λ j lt. clear j (omega arith))

-- a write of a run of n lines more
pub one_run : (start : ℕ) (lines bytes : List ℕ) (from n : ℕ) (before after : List Call) → AreRuns start lines bytes from before after → 64 * get_or lines from 0 + 64 * n ≤ length bytes
    → ((j : ℕ) → from + j < from + n → get_or lines (from + j) 0 ≡ get_or lines from 0 + j)
    → AreRuns start lines bytes (from + n) before (wrote (start + 64 * get_or lines from 0) (take (64 * n) (drop (64 * get_or lines from 0) bytes)) ∷ after)
one_run start lines bytes from n before after are fits next = record {
  writes = one_write before after _ _ are.writes;
  own = own_bytes start lines bytes from n before after are fits next;
  others = other_bytes start lines bytes from n before after are fits next;
}
