-- The names of a batch are added one after another.
use Rattle.std.proofs.Common.{◌≡◌, ℕ, zero, suc, ◌+◌, ◌<◌, ◌≤◌, min, Bool, true, false, cond, List, [], ◌∷◌, length, take, Option, Some, None, refl, ◌∙◌, ap, arith}
use Rattle.std.proofs.lemmas.List.Sums.{sum_by-cons}
use Rattle.log_entry.specs.declared.entry.Entry.{Entry}
use Rattle.log_entry.specs.declared.entry.EntryName.{EntryName}
use Rattle.log_standing.specs.declared.types.Copies.{Copies}
use Rattle.log_standing.specs.NameCounts.{StandingState, name_eq, copies_at, count_in, count_of, is_told, one_more, spot_of, Changes}
use Rattle.log_standing.specs.NameCounts as counts
use Rattle.log_standing.proofs.Clients.{same_name}
use Rattle.batch_leader.specs.declared.taken.Taken.{Taken}
use Rattle.batch_leader.specs.TakenChanges.{entries_taken, name_in}
use Rattle.core_worker.specs.StandingTies.{named_in, most_names, AddsNames}

-- 1 where a name is this one
abbrev pub one_if : Bool → ℕ
one_if true = 1
one_if false = 0

abbrev counts_name : Option EntryName → ℕ → ℕ → ℕ
counts_name None k n = 0
counts_name (Some x) k n = one_if (name_eq (x.key, x.version) (k, n))

pub named_more : (e : Entry) (es : List Entry) (k n : ℕ) → named_in (e ∷ es) k n ≡ one_if (name_eq (e.key, e.version) (k, n)) + named_in es k n
named_more e es k n = sum_by-cons (λ (x : Entry). cond {A = ℕ} (name_eq (x.key, x.version) (k, n)) 1 0) e es ∙ ap {B = ℕ} (λ (i : ℕ). i + named_in es k n) (by (name_eq (e.key, e.version) (k, n))) where
  by : (b : Bool) → cond {A = ℕ} b 1 0 ≡ one_if b
  by true = refl
  by false = refl

-- the first entries, with one more
pub named_step : (ts : List Taken) (i : ℕ) (k n : ℕ) → named_in (take (suc i) (entries_taken ts)) k n ≡ named_in (take i (entries_taken ts)) k n + counts_name (name_in ts i) k n
named_step [] zero k n = refl
named_step [] (suc i) k n = refl
named_step (t ∷ ts) zero k n = let more = named_more t.change.entry [] k n in omega (arith, more)
named_step (t ∷ ts) (suc i) k n =
    let rest = named_step ts i k n in
    let one = named_more t.change.entry (take (suc i) (entries_taken ts)) k n in
    let two = named_more t.change.entry (take i (entries_taken ts)) k n in
    omega (arith, rest, one, two)

pub record AddsSoFar (ts : List Taken) (i : ℕ) (old st : StandingState) : Type 0 where
  pub counts : (k n : ℕ) → count_of st k n ≡ count_of old k n + named_in (take i (entries_taken ts)) k n
  pub told : (k n : ℕ) → is_told st k n ≡ is_told old k n
  pub settled : st.settled ≡ old.settled
  pub room : most_names ≤ st.room + i
  pub many : length st.entries ≤ length old.entries + min i (length ts)
  pub spots : (k n : ℕ) → named_in (take i (entries_taken ts)) k n ≡ 0 → spot_of st k n ≡ spot_of old k n
  pub floors : st.floors ≡ old.floors

pub adds_first : (ts : List Taken) (st : StandingState) → most_names ≤ st.room → AddsSoFar ts 0 st st
adds_first ts st room = record { counts = λ k n. omega arith; told = λ k n. refl; settled = refl; room = omega (arith, room); many = omega arith; spots = λ k n none. refl; floors = refl }

count_more : (o : Option Copies) → count_in (Some (one_more o)) ≡ count_in o + 1
count_more None = refl
count_more (Some c) = refl

told_more : (o : Option Copies) → counts.told_in (Some (one_more o)) ≡ counts.told_in o
told_more None = refl
told_more (Some c) = refl

-- as many names more as there were taken ones so far
pub counts_more : (ts : List Taken) (i : ℕ) (old st new : StandingState) (name : EntryName) → name_in ts i ≡ Some name → length st.entries ≤ length old.entries + min i (length ts) → length new.entries ≤ length st.entries + 1 → length new.entries ≤ length old.entries + min (i + 1) (length ts)
counts_more ts i old st new name is so one = let lt = name_within ts i name is in omega (arith, lt, so, one) where
  name_within : (xs : List Taken) (j : ℕ) (n : EntryName) → name_in xs j ≡ Some n → j < length xs
  name_within [] j n is = absurd (cc is)
  name_within (x ∷ xs) zero n is = omega arith
  name_within (x ∷ xs) (suc j) n is = let rest = name_within xs j n is in omega (arith, rest)

module _ (ts : List Taken) (i : ℕ) (old st : StandingState) (S : AddsSoFar ts i old st) where
  taken_more : (x : Option EntryName) → name_in ts i ≡ x → (k n : ℕ) → named_in (take (i + 1) (entries_taken ts)) k n ≡ named_in (take i (entries_taken ts)) k n + counts_name x k n
  taken_more x is k n = ap (λ (j : ℕ). named_in (take j (entries_taken ts)) k n) (let e : i + 1 ≡ suc i = omega arith in e) ∙ named_step ts i k n ∙ ap (λ (y : Option EntryName). named_in (take i (entries_taken ts)) k n + counts_name y k n) is

  -- there is none any more
  pub adds_none : name_in ts i ≡ None → AddsSoFar ts (i + 1) old st
  adds_none is = record {
    counts = λ k n. (let a = S.counts k n in let b = taken_more None is k n in omega (arith, a, b));
    told = S.told;
    settled = S.settled;
    room = (let r = S.room in omega (arith, r));
    many = (let m = S.many in omega (arith, m));
    spots = λ k n none. S.spots k n (let b = taken_more None is k n in omega (arith, b, none));
    floors = S.floors;
  }

  pub adds_one : (new : StandingState) (name : EntryName) → name_in ts i ≡ Some name → Changes st new name.key name.version (Some (one_more (copies_at st name.key name.version))) → new.room + 1 ≡ st.room → new.settled ≡ st.settled → length new.entries ≤ length st.entries + 1 → new.floors ≡ st.floors → AddsSoFar ts (i + 1) old new
  adds_one new name is changes room settled one floors = record {
    counts = λ k n. (let a = S.counts k n in let b = taken_more (Some name) is k n in let d = count_now k n in omega (arith, a, b, d));
    told = λ k n. told_now k n ∙ S.told k n;
    settled = settled ∙ S.settled;
    room = (let r = S.room in omega (arith, r, room));
    many = counts_more ts i old st new name is S.many one;
    spots = λ k n none. (let b = taken_more (Some name) is k n in spot_now k n (omega (arith, b, none)) ∙ S.spots k n (omega (arith, b, none)));
    floors = floors ∙ S.floors;
  } where
    here_is : (k n : ℕ) → name_eq (name.key, name.version) (k, n) ≡ true → copies_at st name.key name.version ≡ copies_at st k n
    here_is k n e = let same = same_name name.key name.version k n e in λ j. copies_at st (same.0 j) (same.1 j)

    copies_now : (k n : ℕ) (b : Bool) → name_eq (name.key, name.version) (k, n) ≡ b → copies_at new k n ≡ cond b (Some (one_more (copies_at st name.key name.version))) (copies_at st k n)
    copies_now k n b e = changes k n ∙ ap (λ (c : Bool). cond c (Some (one_more (copies_at st name.key name.version))) (copies_at st k n)) e

    count_now : (k n : ℕ) → count_of new k n ≡ count_of st k n + one_if (name_eq (name.key, name.version) (k, n))
    count_now k n = by (name_eq (name.key, name.version) (k, n)) refl where
      by : (b : Bool) → name_eq (name.key, name.version) (k, n) ≡ b → count_of new k n ≡ count_of st k n + one_if (name_eq (name.key, name.version) (k, n))
      by true e = (let a = ap count_in (copies_now k n true e) in let b = count_more (copies_at st name.key name.version) in let d = ap count_in (here_is k n e) in let f = ap one_if e in omega (arith, a, b, d, f))
      by false e = (let a = ap count_in (copies_now k n false e) in let b = ap one_if e in omega (arith, a, b))

    spot_now : (k n : ℕ) → one_if (name_eq (name.key, name.version) (k, n)) ≡ 0 → spot_of new k n ≡ spot_of st k n
    spot_now k n = by (name_eq (name.key, name.version) (k, n)) refl where
      by : (b : Bool) → name_eq (name.key, name.version) (k, n) ≡ b → one_if b ≡ 0 → spot_of new k n ≡ spot_of st k n
      by true e none = absurd (omega (arith, none))
      by false e none = ap counts.spot_in (copies_now k n false e)

    told_now : (k n : ℕ) → is_told new k n ≡ is_told st k n
    told_now k n = by (name_eq (name.key, name.version) (k, n)) refl where
      by : (b : Bool) → name_eq (name.key, name.version) (k, n) ≡ b → is_told new k n ≡ is_told st k n
      by true e = ap counts.told_in (copies_now k n true e) ∙ told_more (copies_at st name.key name.version) ∙ ap counts.told_in (here_is k n e)
      by false e = ap counts.told_in (copies_now k n false e)

-- after so many as a batch may have there are no more
pub take_all : (es : List Entry) (i : ℕ) → length es ≤ i → take i es ≡ es
take_all [] zero le = refl
take_all [] (suc i) le = refl
take_all (e ∷ es) zero le = absurd (omega (arith, le))
take_all (e ∷ es) (suc i) le = ap (λ (xs : List Entry). e ∷ xs) (take_all es i (omega (arith, le)))

pub adds_all : (ts : List Taken) (old st : StandingState) → length ts ≤ most_names → AddsSoFar ts 64 old st → AddsNames old st (entries_taken ts)
adds_all ts old st few S = record {
  counts = λ k n. S.counts k n ∙ ap (λ (es : List Entry). count_of old k n + named_in es k n) (take_all (entries_taken ts) 64 (let long = length_entries ts in omega (arith, long, few)));
  told = S.told;
  settled = S.settled;
  spots = λ k n none. S.spots k n (ap (λ (es : List Entry). named_in es k n) (take_all (entries_taken ts) 64 (let long = length_entries ts in omega (arith, long, few))) ∙ none);
  floors = S.floors;
} where
  length_entries : (xs : List Taken) → length (entries_taken xs) ≡ length xs
  length_entries [] = refl
  length_entries (x ∷ xs) = let rest = length_entries xs in omega (arith, rest)
