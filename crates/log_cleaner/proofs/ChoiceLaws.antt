-- The first eligible chunk in cyclic order.
use Rattle.std.proofs.Common.{◌≡◌, ◌≢◌, inl, inr, ⊎_elim, ℕ, ◌+◌, ◌*◌, ◌≤◌, ◌<◌, ◌||◌, Bool, true, false, List, length, take, Option, Some, None, is_some, refl, sym, ◌∙◌, ap, arith}
use Rattle.std.specs.Prelude.{nat_le}
use Rattle.std.proofs.lemmas.Bool.{and_from, and_parts, cases_lt, le-leb, leb-true}
use Rattle.pm_region.specs.State.{State}
use Rattle.chunk_map.proofs.Clients.{numbers_of, chunk_words_whole, payload_of}
use Rattle.core_log.specs.declared.types.Room.{Room}
use Rattle.core_log.specs.Log.{LogState, StandsIn, tail_of, tail_in}
use Rattle.log_cleaner.specs.declared.types.Victim.{Victim}
use Rattle.core_log.specs.Walking.{entries_in}
use Rattle.log_entry.specs.declared.entry.Entry.{Entry}
use Rattle.log_entry.specs.Spelling.{words_of}
use Rattle.log_standing.specs.ChunkCounts.{IsStandingOf}
use Rattle.log_standing.specs.NameCounts.{StandingState}
use Rattle.log_cleaner.specs.Choosing.{copy_lines, fits, has_room, IsCandidate, IsEligible, IsPast, Comes, IsVictim, IsFirstIn}
use Rattle.log_cleaner.specs.Copying.{awaits, left_to_copy, tally_of, to_copy, words_sum}
use Rattle.log_cleaner.specs.Floors.{HasFloors, Searches}
use Rattle.log_cleaner.specs.Searching.{Forgets, IsRead}
use Rattle.log_cleaner.proofs.FloorLaws.{left_searched}
use Rattle.log_cleaner.proofs.LessLaws.{sum_ones, sum_take}
use Rattle.log_cleaner.proofs.Parts.{chunk_of}

pub tail_small : (s : State) (log : LogState) (j : ℕ) → StandsIn s log → is_some (tail_of log.chunks j) ≡ true → tail_in log j ≤ 524288
tail_small s log j stands has =
    let fits = (chunk_of s log stands j has).fits in
    let size = (numbers_of log.layout stands.own.layout).size in
    let words = (chunk_words_whole log.layout size).3 in
    let payload = payload_of log.layout size in
    omega (arith, fits, words, payload)

eligible_small : (s : State) (log : LogState) (st : StandingState) (room : Room) (i : ℕ) → StandsIn s log → IsEligible s log st room i → i < 64
eligible_small s log st room i stands is =
    let within = (chunk_of s log stands i is.has).within in
    let most = (numbers_of log.layout stands.own.layout).chunks_high in
    omega (arith, within, most)

-- where the search begins
pub record BeginsAt (after : Option ℕ) (begin : ℕ) : Type 0 where
  pub none : after ≡ None → begin ≡ 0
  pub some : (a : ℕ) → after ≡ Some a → a < 64 → begin ≡ a + 1
  pub past : (a : ℕ) → after ≡ Some a → 64 ≤ a → begin ≡ 64

-- found at or behind it
comes_first : (after : Option ℕ) (begin j : ℕ) → BeginsAt after begin → begin ≤ j → j < 64 → (i : ℕ) → (begin ≤ i → j ≤ i) → Comes after j i
comes_first None begin j b low high i first = let e = b.none refl in first (omega (arith, e))
comes_first (Some a) begin j b low high i first = ⊎_elim
    (λ lt. let e = b.some a refl lt in inl (omega (arith, e, low), ⊎_elim (λ le. inr (omega (arith, le))) (λ ge. inl (first (omega (arith, e, ge)))) (cases_lt i begin)))
    (λ ge. let e = b.past a refl ge in absurd (omega (arith, e, low, high)))
    (cases_lt a 64)

-- found before it, where none is behind
comes_next : (after : Option ℕ) (begin j : ℕ) → BeginsAt after begin → j < begin → (i : ℕ) → i < begin → j ≤ i → Comes after j i
comes_next None begin j b high i lt le = let e = b.none refl in absurd (omega (arith, e, high))
comes_next (Some a) begin j b high i lt le = ⊎_elim
    (λ below. let e = b.some a refl below in inr (omega (arith, e, high), omega (arith, e, lt), le))
    (λ ge. let e = b.past a refl ge in inr (omega (arith, e, high, ge), omega (arith, e, lt, ge), le))
    (cases_lt a 64)

pub chosen_first : (s : State) (log : LogState) (st : StandingState) (after : Option ℕ) (room : Room) (begin : ℕ) (v : Victim) → StandsIn s log → BeginsAt after begin → IsFirstIn s log st room begin 64 (Some v) → IsVictim s log st after room (Some v)
chosen_first s log st after room begin v stands b is =
    (is.0, is.1, λ i eligible. comes_first after begin v.chunk b is.2.0 is.2.1 i (λ low. is.3 i low (eligible_small s log st room i stands eligible) eligible))

pub chosen_next : (s : State) (log : LogState) (st : StandingState) (after : Option ℕ) (room : Room) (begin : ℕ) (r : Option Victim) → StandsIn s log → BeginsAt after begin → IsFirstIn s log st room begin 64 None → IsFirstIn s log st room 0 begin r → IsVictim s log st after room r
chosen_next s log st after room begin None stands b none is = λ i eligible. ⊎_elim (λ lt. is i (omega arith) lt eligible) (λ ge. none i ge (eligible_small s log st room i stands eligible) eligible) (cases_lt i begin)
chosen_next s log st after room begin (Some v) stands b none is = (
  is.0,
  is.1,
  λ i eligible. ⊎_elim
      (λ lt. comes_next after begin v.chunk b is.2.1 i lt (is.3 i (omega arith) lt eligible))
      (λ ge. absurd (none i ge (eligible_small s log st room i stands eligible) eligible)) (cases_lt i begin),
)

more_room : (room : Room) (fewest lines : ℕ) → fewest ≤ lines → has_room room lines ≡ true → has_room room fewest ≡ true
more_room room fewest lines le has =
    let parts = and_parts (nat_le (3 * lines) room.payload_lines) (nat_le (room.pledged_lines + lines) room.open_lines || nat_le 1 room.free_chunks) has in
    let third = leb-true (3 * lines) room.payload_lines parts.0 in
    and_from (nat_le (3 * fewest) room.payload_lines) (nat_le (room.pledged_lines + fewest) room.open_lines || nat_le 1 room.free_chunks)
    (le-leb (3 * fewest) room.payload_lines (omega (arith, third, le)))
    (elim (nat_le (room.pledged_lines + lines) room.open_lines) as (λ b. nat_le (room.pledged_lines + lines) room.open_lines ≡ b → (b || nat_le 1 room.free_chunks) ≡ true → (nat_le (room.pledged_lines + fewest) room.open_lines || nat_le 1 room.free_chunks) ≡ true) [
      | true ↦ λ is or. let fit = leb-true (room.pledged_lines + lines) room.open_lines is in ap (λ (b : Bool). b || nat_le 1 room.free_chunks) (le-leb (room.pledged_lines + fewest) room.open_lines (omega (arith, fit, le)))
      | false ↦ λ isnt free. or_second (nat_le (room.pledged_lines + fewest) room.open_lines) (nat_le 1 room.free_chunks) free
    ] refl parts.1)
  where
    or_second : (a b : Bool) → b ≡ true → (a || b) ≡ true
    or_second true b is = refl
    or_second false b is = is

-- the lines of more entries and words are no fewer
more_lines : (j i e w f v : ℕ) → e ≤ f → w ≤ v → copy_lines (record { chunk = j; entries = e; words = w }) ≤ copy_lines (record { chunk = i; entries = f; words = v })
more_lines j i e w f v le few = omega (arith, le, few)

-- of the first entries no more is left than of all
taken_fewer : (st : StandingState) (n : ℕ) (es : List (ℕ × Entry)) → (length (left_to_copy st (take n es)) ≤ length (left_to_copy st es)) × (words_sum (left_to_copy st (take n es)) ≤ words_sum (left_to_copy st es))
taken_fewer st n es =
    let a = sum_take (λ (x : ℕ × Entry). 1) (awaits st) n es in
    let b = sum_ones (left_to_copy st (take n es)) in
    let c = sum_ones (left_to_copy st es) in
    (omega (arith, a, b, c), sum_take (λ (x : ℕ × Entry). length (words_of x.1)) (awaits st) n es)

-- a chunk is not eligible where so much is left of it at least that it doesn't fit
pub past_eligible : (s : State) (log : LogState) (st : StandingState) (room : Room) (j : ℕ) → HasFloors s log st → IsPast st room j → IsEligible s log st room j → ⊥
past_eligible s log st room j floors past is =
    let counted = floors.counted j past.amount past.noted in
    let floor = counted.floor in
    let whole = taken_fewer st counted.seen.many (entries_in s log j) in
    let v = to_copy s log st j in
    let fewer = more_lines j j past.amount.entries past.amount.words v.entries v.words (let a = floor.entries in let b = whole.0 in omega (arith, a, b)) (let a = floor.words in let b = whole.1 in omega (arith, a, b)) in
    absurd (let both : false ≡ true = sym past.past ∙ more_room room (copy_lines (record { chunk = j; entries = past.amount.entries; words = past.amount.words })) (copy_lines v) fewer is.fitting in cc both)

-- as a body tests it
pub fits_as : (room : Room) (v : Victim) (lines : ℕ) (r : Bool) → lines ≡ copy_lines v → r ≡ has_room room lines → fits room v ≡ r
fits_as room v lines r is test = ap (has_room room) (sym is) ∙ sym test

-- the same of the names after a search
pub same_to_copy : (s : State) (log : LogState) (old new : StandingState) → Searches old new → (j : ℕ) → to_copy s log new j ≡ to_copy s log old j
same_to_copy s log old new same j = ap (tally_of j) (left_searched old new same (entries_in s log j))

pub eligible_searched : (s : State) (log : LogState) (old new : StandingState) (room : Room) → Searches old new → (i : ℕ) → IsEligible s log old room i → IsEligible s log new room i
eligible_searched s log old new room same i is = record { has = is.has; closed = is.closed; fitting = ap (fits room) (same_to_copy s log old new same i) ∙ is.fitting }

pub eligible_was : (s : State) (log : LogState) (old new : StandingState) (room : Room) → Searches old new → (i : ℕ) → IsEligible s log new room i → IsEligible s log old room i
eligible_was s log old new room same i is = record { has = is.has; closed = is.closed; fitting = ap (fits room) (sym (same_to_copy s log old new same i)) ∙ is.fitting }

pub standing_searched : (s : State) (log : LogState) (old new : StandingState) → Searches old new → IsStandingOf s log old → IsStandingOf s log new
standing_searched s log old new same stands k v = same.counts k v ∙ stands k v

-- what was found after a part of the search
pub candidate_was : (s : State) (log : LogState) (old new : StandingState) (room : Room) (j : ℕ) (r : Option Victim) → Searches old new → IsCandidate s log new room j r → IsCandidate s log old room j r
candidate_was s log old new room j None same none = λ is. none (eligible_searched s log old new room same j is)
candidate_was s log old new room j (Some v) same is = (is.0 ∙ same_to_copy s log old new same j, eligible_was s log old new room same j is.1)

pub first_was : (s : State) (log : LogState) (old new : StandingState) (room : Room) (low high : ℕ) (r : Option Victim) → Searches old new → IsFirstIn s log new room low high r → IsFirstIn s log old room low high r
first_was s log old new room low high None same none = λ i le lt is. none i le lt (eligible_searched s log old new room same i is)
first_was s log old new room low high (Some v) same is =
    (is.0 ∙ same_to_copy s log old new same v.chunk, eligible_was s log old new room same v.chunk is.1, is.2, λ i le lt eligible. is.3 i le lt (eligible_searched s log old new room same i eligible))

-- What was read of a chunk fits where the chunk does, and is then all of it.
module _ (s : State) (log : LogState) (old begun new : StandingState) (room : Room) (j : ℕ) (v : Victim) (alone : Bool) (forgets : Forgets old begun j) (read : IsRead s log begun new room j v alone) where
  pub read_fits : is_some (tail_of log.chunks j) ≡ true → log.opened ≢ Some j → fits room v ≡ true → IsCandidate s log old room j (Some v)
  read_fits has closed fit =
      let all : v ≡ to_copy s log begun j = read.left ∙ ap (λ (l : List (ℕ × Entry)). tally_of j (left_to_copy begun l)) (read.whole fit) in
      candidate_was s log old begun room j (Some v) forgets.same (all, record { has = has; closed = closed; fitting = ap (fits room) (sym all) ∙ fit })

  pub read_past : fits room v ≡ false → IsCandidate s log old room j None
  read_past past = candidate_was s log old begun room j None forgets.same (λ eligible.
      let es = entries_in s log j in
      let part = left_to_copy begun (take read.many es) in
      let whole = left_to_copy begun es in
      let fewer = taken_fewer begun read.many es in
      let lines = more_lines j j (length part) (words_sum part) (length whole) (words_sum whole) fewer.0 fewer.1 in
      let fit = ap (fits room) read.left ∙ more_room room (copy_lines (tally_of j part)) (copy_lines (tally_of j whole)) lines eligible.fitting in
      let both : false ≡ true = sym past ∙ fit in
      cc both)
