-- Numbers that a caller keeps of what is left to be copied.
use Rattle.std.proofs.Common.{◌≡◌, ℕ, ◌-◌, ◌≤◌, List, [], ◌∷◌, length, take, Bool, true, refl, ◌∙◌, ap, arith}
use Rattle.std.specs.Prelude.{option_map}
use Rattle.std.specs.List.{flat_map, sum_by}
use Rattle.std.proofs.lemmas.List.{length-append}
use Rattle.std.proofs.lemmas.List.Sums.{sum_by-cons}
use Rattle.pm_region.specs.State.{State}
use Rattle.log_entry.specs.declared.entry.Entry.{Entry}
use Rattle.log_entry.specs.Spelling.{words_of}
use Rattle.core_log.specs.Log.{LogState}
use Rattle.core_log.specs.Walking.{entries_in}
use Rattle.log_standing.specs.NameCounts.{StandingState, copies_at, killed, Changes}
use Rattle.log_cleaner.specs.declared.types.Victim.{Victim}
use Rattle.log_cleaner.specs.Copying.{left_to_copy, words_sum, tally_of, to_copy, IsEachOnce}
use Rattle.log_cleaner.specs.CopyBatch.{batch_in, entries_of, firsts, next_batch, IsLess, IsCopyBatch, Bounds, lowered_by}
use Rattle.log_cleaner.proofs.Between.{kill_less}
use Rattle.log_cleaner.proofs.LessLaws.{sum_take, sum_firsts, filter_all}

pub words_long : (xs : List (ℕ × Entry)) → length (flat_map words_of (entries_of xs)) ≡ words_sum xs
words_long [] = refl
words_long (x ∷ xs) =
    let a = sum_by-cons (λ (y : ℕ × Entry). length (words_of y.1)) x xs in
    let b = length-append (words_of x.1) (flat_map words_of (entries_of xs)) in
    let rest = words_long xs in
    omega (arith, a, b, rest)

pub tally_begins : (s : State) (log : LogState) (st : StandingState) (j : ℕ) (v : Victim) → v ≡ to_copy s log st j → Bounds v st (entries_in s log j)
tally_begins s log st j v is = let a = ap (λ (u : Victim). u.entries) is in let b = ap (λ (u : Victim). u.words) is in record { entries = omega (arith, a); words = omega (arith, b) }

none_long : (xs : List (ℕ × Entry)) → length xs ≤ 0 → xs ≡ []
none_long [] le = refl
none_long (x ∷ xs) le = absurd (omega (arith, le))

pub tally_none : (v : Victim) (st : StandingState) (es : List (ℕ × Entry)) → Bounds v st es → v.entries ≡ 0 → left_to_copy st es ≡ []
tally_none v st es bounds none = let a = bounds.entries in none_long (left_to_copy st es) (omega (arith, a, none))

module _ (s : State) (log : LogState) (old new : StandingState) (j n : ℕ) (ws : List ℕ) (v : Victim) (copied : IsCopyBatch s log old j n ws) (less : IsLess old new (entries_in s log j)) where
  long : length ws ≡ words_sum (batch_in s log old j)
  long = ap (λ (l : List ℕ). length l) copied.words ∙ words_long (batch_in s log old j)

  pub tally_within : Bounds v old (entries_in s log j) → (n ≤ v.entries) × (length ws ≤ v.words)
  tally_within bounds = let a = bounds.entries in let b = bounds.words in let d = less.entries in let e = less.words in let f = copied.count in let w = long in (omega (arith, a, d, f), omega (arith, b, e, w))

  pub tally_lowered : Bounds v old (entries_in s log j) → Bounds (lowered_by v n (length ws)) new (entries_in s log j)
  tally_lowered bounds = let a = bounds.entries in let b = bounds.words in let d = less.entries in let e = less.words in let f = copied.count in let w = long in record { entries = omega (arith, a, d, f); words = omega (arith, b, e, w) }

  pub tally_just : IsEachOnce (left_to_copy old (entries_in s log j)) → v ≡ tally_of j (left_to_copy old (entries_in s log j)) → lowered_by v n (length ws) ≡ tally_of j (left_to_copy new (entries_in s log j))
  tally_just once is =
      let just = less.just once in
      let a = ap (λ (u : Victim). u.entries) is in
      let b = ap (λ (u : Victim). u.words) is in
      let d = just.entries in
      let e = just.words in
      let f = copied.count in
      let w = long in
      let entries : v.entries - n ≡ length (left_to_copy new (entries_in s log j)) = omega (arith, a, d, f) in
      let words : v.words - length ws ≡ words_sum (left_to_copy new (entries_in s log j)) = omega (arith, b, e, w) in
      (λ i. record { chunk = (ap (λ (u : Victim). u.chunk) is) i; entries = entries i; words = words i })

pub tally_killed : (old new : StandingState) (k w : ℕ) → Changes old new k w (option_map killed (copies_at old k w)) → (v : Victim) (es : List (ℕ × Entry)) → Bounds v old es → Bounds v new es
tally_killed old new k w changes v es bounds = let less = kill_less old new k w changes es in let a = less.0 in let b = less.1 in let d = bounds.entries in let e = bounds.words in record { entries = omega (arith, a, d); words = omega (arith, b, e) }

-- a batch is of what is left
pub batch_within : (st : StandingState) (es : List (ℕ × Entry)) → words_sum (next_batch st es) ≤ words_sum (left_to_copy st es)
batch_within st es =
    let f : ℕ × Entry → ℕ = λ x. length (words_of x.1) in
    let all : ℕ × Entry → Bool = λ x. true in
    let left = left_to_copy st es in
    let a = sum_take f all 64 (firsts left) in
    let b = sum_firsts f all left in
    let c = ap (sum_by f) (filter_all f all (take 64 (firsts left)) (λ x i. refl)) in
    let d = ap (sum_by f) (filter_all f all (firsts left) (λ x i. refl)) in
    let e = ap (sum_by f) (filter_all f all left (λ x i. refl)) in
    omega (arith, a, b, c, d, e)
