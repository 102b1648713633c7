-- What is left of a chunk, counted entry by entry.
use Rattle.std.proofs.Common.{◌≡◌, ℕ, ◌+◌, ◌-◌, ◌≤◌, ◌<◌, Bool, true, false, cond, List, ◌∷◌, ◌++◌, length, sym, ◌∙◌, ap, arith}
use Rattle.std.proofs.lemmas.List.{length-append}
use Rattle.std.proofs.lemmas.List.Elements.{filter-append}
use Rattle.std.proofs.lemmas.List.Sums.{sum_by-append, sum_by-cons}
use Rattle.pm_region.specs.State.{State}
use Rattle.log_entry.specs.declared.entry.Entry.{Entry}
use Rattle.log_entry.specs.Spelling.{words_of}
use Rattle.core_log.specs.declared.types.Peek.{Peek}
use Rattle.core_log.specs.Log.{LogState}
use Rattle.core_log.specs.Walking.{entries_in, behind, IsFound}
use Rattle.log_cleaner.specs.declared.types.Victim.{Victim}
use Rattle.log_standing.specs.NameCounts.{StandingState, wants}
use Rattle.log_cleaner.specs.Copying.{awaits, left_to_copy, words_sum, tally_of}

-- so much is counted of the entries before a place
pub record Counted (st : StandingState) (es : List (ℕ × Entry)) (place : ℕ) (v : Victim) : Type 0 where
  pub entries : v.entries + length (left_to_copy st (behind place es)) ≡ length (left_to_copy st es)
  pub words : v.words + words_sum (left_to_copy st (behind place es)) ≡ words_sum (left_to_copy st es)

pub count_starts : (st : StandingState) (es : List (ℕ × Entry)) (place : ℕ) (v : Victim) → left_to_copy st es ≡ left_to_copy st (behind place es) → v.entries ≡ 0 → v.words ≡ 0 → Counted st es place v
count_starts st es place v left none no_words =
    let a = ap (λ (l : List (ℕ × Entry)). length l) left in
    let b = ap words_sum left in
    record { entries = omega (arith, a, none); words = omega (arith, b, no_words) }

-- the counts stay below the place
pub count_below : (b : Bool) (v w : Victim) (p : Peek) (j place : ℕ) → v.entries ≤ place → v.words ≤ place → v.chunk ≡ j → (place ≤ p.place) × (p.place < p.next) → w ≡ cond b (record v { entries = v.entries + 1; words = v.words + (p.next - p.place) }) v
    → (w.entries ≤ p.next) × (w.words ≤ p.next) × (w.chunk ≡ j)
count_below true v w p j place entries words chunk within is =
    let e = ap (λ (u : Victim). u.entries) is in
    let f = ap (λ (u : Victim). u.words) is in
    (omega (arith, e, entries, within.0, within.1), omega (arith, f, words, within.0, within.1), ap (λ (u : Victim). u.chunk) is ∙ chunk)
count_below false v w p j place entries words chunk within is =
    let e = ap (λ (u : Victim). u.entries) is in
    let f = ap (λ (u : Victim). u.words) is in
    (omega (arith, e, entries, within.0, within.1), omega (arith, f, words, within.0, within.1), ap (λ (u : Victim). u.chunk) is ∙ chunk)

-- one entry of those that are left
tally : (b : Bool) (v w : Victim) (p : Peek) (x : ℕ × Entry) (rest : List (ℕ × Entry)) → p.next ≡ p.place + length (words_of x.1) → w ≡ cond b (record v { entries = v.entries + 1; words = v.words + (p.next - p.place) }) v
    → (w.entries + length rest ≡ v.entries + length (cond b (x ∷ rest) rest)) × (w.words + words_sum rest ≡ v.words + words_sum (cond b (x ∷ rest) rest))
tally true v w p x rest next is =
    let e = ap (λ (u : Victim). u.entries) is in
    let f = ap (λ (u : Victim). u.words) is in
    let more : words_sum (x ∷ rest) ≡ length (words_of x.1) + words_sum rest = sum_by-cons (λ (y : ℕ × Entry). length (words_of y.1)) x rest in
    (omega (arith, e), omega (arith, f, next, more))
tally false v w p x rest next is = (ap (λ (u : Victim). u.entries + length rest) is, ap (λ (u : Victim). u.words + words_sum rest) is)

pub count_on : (s : State) (log : LogState) (st : StandingState) (j place : ℕ) (p : Peek) (v w : Victim) → IsFound s log j place p → Counted st (entries_in s log j) place v
    → w ≡ cond (wants st p.name.key p.name.version) (record v { entries = v.entries + 1; words = v.words + (p.next - p.place) }) v → Counted st (entries_in s log j) p.next w
count_on s log st j place p v w f so_far is =
    let es = entries_in s log j in
    let x = f.found in
    let rest = left_to_copy st (behind p.next es) in
    let same : wants st p.name.key p.name.version ≡ awaits st x = λ i. wants st (f.key i) (f.version i) in
    let t = tally (awaits st x) v w p x rest f.next (is ∙ ap (λ (b : Bool). cond b (record v { entries = v.entries + 1; words = v.words + (p.next - p.place) }) v) same) in
    let a = ap (λ (l : List (ℕ × Entry)). length (left_to_copy st l)) f.left in
    let b = ap (λ (l : List (ℕ × Entry)). words_sum (left_to_copy st l)) f.left in
    let c = so_far.entries in
    let d = so_far.words in
    record { entries = omega (arith, t.0, a, c); words = omega (arith, t.1, b, d) }

-- so much is left of the entries before it
pub count_ends : (st : StandingState) (es done : List (ℕ × Entry)) (j place : ℕ) (v : Victim) → Counted st es place v → done ++ behind place es ≡ es → v.chunk ≡ j → v ≡ tally_of j (left_to_copy st done)
count_ends st es done j place v so_far split chunk =
    let rest = left_to_copy st (behind place es) in
    let parts = sym (filter-append (awaits st) done (behind place es)) ∙ ap (left_to_copy st) split in
    let long = ap (λ (l : List (ℕ × Entry)). length l) parts in
    let both = length-append (left_to_copy st done) rest in
    let words = ap words_sum parts in
    let sums = sum_by-append (λ (x : ℕ × Entry). length (words_of x.1)) (left_to_copy st done) rest in
    let c = so_far.entries in
    let d = so_far.words in
    let e : v.entries ≡ length (left_to_copy st done) = omega (arith, long, both, c) in
    let f : v.words ≡ words_sum (left_to_copy st done) = omega (arith, words, sums, d) in
    (λ i. record { chunk = chunk i; entries = e i; words = f i })
