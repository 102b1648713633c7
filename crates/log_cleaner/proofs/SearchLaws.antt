-- A chunk is read for a search, entry by entry.
use Rattle.std.proofs.Common.{◌≡◌, ◌≢◌, ◌⊎◌, inl, inr, ⊎_elim, ℕ, ◌+◌, ◌-◌, ◌≤◌, ◌<◌, ◌==◌, ◌&&◌, ◌||◌, not, Bool, true, false, cond, List, [], ◌∷◌, ◌++◌, length, take, Option, Some, None, is_some, refl, sym, ◌∙◌, ap, subst, arith, append_assoc}
use Rattle.std.specs.List.{AllByRecursion, count_by}
use Rattle.std.proofs.lemmas.Bool.{and_parts, cond-true, cond-false, eqb-true, eq-eqb}
use Rattle.std.proofs.Math.Seq.{take-append_seam}
use Rattle.std.proofs.lemmas.List.Sums.{sum_by-append, sum_by-cons}
use Rattle.pm_region.specs.State.{State}
use Rattle.log_entry.specs.declared.entry.Entry.{Entry}
use Rattle.log_entry.specs.Spelling.{words_of}
use Rattle.core_log.specs.declared.types.Peek.{Peek}
use Rattle.core_log.specs.declared.types.Room.{Room}
use Rattle.core_log.specs.Log.{LogState, Spelled, tail_of, without}
use Rattle.core_log.specs.Walking.{entries_in, words_in, behind, IsFound}
use Rattle.core_log.proofs.Clients.{ordered, all_behind, without_other}
use Rattle.log_standing.specs.declared.types.Amount.{Amount}
use Rattle.log_standing.specs.declared.types.Spot.{Spot}
use Rattle.log_standing.specs.NameCounts.{StandingState, name_eq, count_of, floor_at, is_told, spot_of, wants}
use Rattle.log_standing.specs.ChunkCounts.{is_named, has_name, IsStandingOf}
use Rattle.log_standing.proofs.Clients.{name_same, same_name}
use Rattle.log_cleaner.specs.declared.types.Victim.{Victim}
use Rattle.log_cleaner.specs.Choosing.{fits}
use Rattle.log_cleaner.specs.Copying.{left_to_copy, tally_of, words_sum}
use Rattle.log_cleaner.specs.Floors.{AreSeen, HasFloors, IsClosed, IsCounted, IsFoundIn, Searches, spot_at}
use Rattle.log_cleaner.specs.Searching.{Forgets, IsRead, Looks}
use Rattle.log_cleaner.proofs.CountLaws.{Counted, count_ends, count_on, count_starts}
use Rattle.log_cleaner.proofs.FloorLaws.{all_in, and_last, both_so, each_so, in_taken, left_searched, none_named, searches_both, searches_itself}
use Rattle.log_cleaner.proofs.GatherLaws.{append_none}
use Rattle.log_cleaner.proofs.Parts.{count_has, count_without, in_named}
use Rattle.store_image.specs.Facts.{In}

-- an entry has words
abbrev pub HasWords : ℕ × Entry → Type 0
HasWords y = 0 < length (words_of y.1)

-- the entries before a place were looked at
pub record Looking (s : State) (log : LogState) (old st : StandingState) (j place : ℕ) (alone : Bool) (v : Victim) : Type 0 where
  pub done : List (ℕ × Entry)
  pub split : done ++ behind place (entries_in s log j) ≡ entries_in s log j
  pub count : Counted old (entries_in s log j) place v
  pub long : AllByRecursion HasWords done
  pub seen : alone ≡ true → AreSeen st j done
  pub others : (k n : ℕ) → (spot_of st k n ≡ spot_of old k n) ⊎ ((count_of old k n ≡ 1) × (has_name (entries_in s log j) k n ≡ true))

pub looking_starts : (s : State) (log : LogState) (st : StandingState) (j : ℕ) (v : Victim) → Spelled (words_in s log j) → v.entries ≡ 0 → v.words ≡ 0 → Looking s log st st j 0 true v
looking_starts s log st j v spelled none no_words =
    let all = all_behind (entries_in s log j) 0 (ordered (words_in s log j) spelled) in record {
      done = [];
      split = all;
      count = count_starts st (entries_in s log j) 0 v (ap (left_to_copy st) (sym all)) none no_words;
      long = tt;
      seen = λ e. record { found = tt; once = λ k n untold. omega arith };
      others = λ k n. inl refl;
    }

named_there : (xs ys : List (ℕ × Entry)) (x : ℕ × Entry) (k n : ℕ) → is_named k n x ≡ true → has_name (xs ++ x ∷ ys) k n ≡ true
named_there [] ys x k n is = ap (λ (b : Bool). b || has_name ys k n) is
named_there (y ∷ xs) ys x k n is = either (is_named k n y) (has_name (xs ++ x ∷ ys) k n) (named_there xs ys x k n is) where
  either : (a b : Bool) → b ≡ true → (a || b) ≡ true
  either true b e = refl
  either false b e = e

module _ (s : State) (log : LogState) (old st st' : StandingState) (j place : ℕ) (p : Peek) (r alone : Bool) (v w : Victim) (f : IsFound s log j place p) (so_far : Looking s log old st j place alone v) (same : Searches old st) (L : Looks st st' j p r) (later : p.place < p.next) where
  es : List (ℕ × Entry)
  es = entries_in s log j

  size : p.next - p.place ≡ length (words_of f.found.1)
  size = let next = f.next in omega (arith, next)

  some_words : HasWords f.found
  some_words = let next = f.next in omega (arith, next, later)

  name_is : (k n : ℕ) → name_eq (p.name.key, p.name.version) (k, n) ≡ is_named k n f.found
  name_is k n = λ i. name_eq (f.key i, f.version i) (k, n)

  split_on : (so_far.done ++ f.found ∷ []) ++ behind p.next (entries_in s log j) ≡ entries_in s log j
  split_on = append_assoc so_far.done (f.found ∷ []) (behind p.next (entries_in s log j)) ∙ ap (λ (l : List (ℕ × Entry)). so_far.done ++ l) (sym f.left) ∙ so_far.split

  there : (k n : ℕ) → is_named k n f.found ≡ true → has_name (entries_in s log j) k n ≡ true
  there k n is = ap (λ (l : List (ℕ × Entry)). has_name l k n) (sym (ap (λ (l : List (ℕ × Entry)). so_far.done ++ l) (sym f.left) ∙ so_far.split)) ∙ named_there so_far.done (behind p.next (entries_in s log j)) f.found k n is

  -- seen, if this one is the only one of its name
  module _ (on : r ≡ true) (seen : AreSeen st j so_far.done) where
    untold_was : (k n : ℕ) → is_told st' k n ≡ false → is_told st k n ≡ false
    untold_was k n untold = sym (L.same.told k n) ∙ untold

    -- no entry before has the name, if that wasn't told dead
    clash : (y : ℕ × Entry) → IsFoundIn st j y → HasWords y → name_eq (p.name.key, p.name.version) (y.1.key, y.1.version) ≡ true → is_told st y.1.key y.1.version ≡ false → ⊥
    clash y found words is untold =
        let e = same_name p.name.key p.name.version y.1.key y.1.version is in
        let at : spot_of st p.name.key p.name.version ≡ spot_at j y = (λ t. spot_of st (e.0 t) (e.1 t)) ∙ found untold in
        let none = L.first on ((λ t. is_told st (e.0 t) (e.1 t)) ∙ untold) (length (words_of y.1)) at in
        omega (arith, words, none)

    found_still : (y : ℕ × Entry) → IsFoundIn st j y → HasWords y → IsFoundIn st' j y
    found_still y found words untold = by (name_eq (p.name.key, p.name.version) (y.1.key, y.1.version)) refl where
      by : (b : Bool) → name_eq (p.name.key, p.name.version) (y.1.key, y.1.version) ≡ b → spot_of st' y.1.key y.1.version ≡ spot_at j y
      by true is = absurd (clash y found words is (untold_was y.1.key y.1.version untold))
      by false isnt = L.others y.1.key y.1.version isnt ∙ found (untold_was y.1.key y.1.version untold)

    found_now : IsFoundIn st' j f.found
    found_now untold =
        let was : is_told st p.name.key p.name.version ≡ false = (λ t. is_told st (f.key t) (f.version t)) ∙ untold_was f.found.1.key f.found.1.version untold in
        (λ t. spot_of st' (sym f.key t) (sym f.version t)) ∙ L.found on was ∙ ap (λ (n : ℕ). record { chunk = j; words = n }) size

    once_on : (k n : ℕ) → is_told st' k n ≡ false → count_by (is_named k n) (so_far.done ++ f.found ∷ []) ≤ 1
    once_on k n untold = by (is_named k n f.found) refl where
      more : count_by (is_named k n) (so_far.done ++ f.found ∷ []) ≡ count_by (is_named k n) so_far.done + cond (is_named k n f.found) 1 0
      more = let a = sum_by-append (λ (x : ℕ × Entry). cond (is_named k n x) 1 0) so_far.done (f.found ∷ []) in let b = sum_by-cons (λ (x : ℕ × Entry). cond (is_named k n x) 1 0) f.found [] in omega (arith, a, b)

      by : (b : Bool) → is_named k n f.found ≡ b → count_by (is_named k n) (so_far.done ++ f.found ∷ []) ≤ 1
      by false isnt = let m = more in let e = ap {B = ℕ} (λ (t : Bool). cond t 1 0) isnt in let o = seen.once k n (untold_was k n untold) in omega (arith, m, e, o)
      by true is =
          let m = more in
          let e = ap {B = ℕ} (λ (t : Bool). cond t 1 0) is in
          let q = same_name p.name.key p.name.version k n (name_is k n ∙ is) in
          let none = none_named k n so_far.done (both_so (IsFoundIn st j) HasWords (λ (y : ℕ × Entry). is_named k n y ≡ true → ⊥)
          (λ y found words named. (let z = same_name y.1.key y.1.version k n named in
          clash y found words ((λ t. name_eq ((q.0 ∙ sym z.0) t, (q.1 ∙ sym z.1) t) (y.1.key, y.1.version)) ∙ name_same y.1.key y.1.version) ((λ t. is_told st (z.0 t) (z.1 t)) ∙ untold_was k n untold)))
          so_far.done seen.found so_far.long) in
          let o = none.0 in
          omega (arith, m, e, o)

    pub seen_on : AreSeen st' j (so_far.done ++ f.found ∷ [])
    seen_on = record {
      found = and_last (IsFoundIn st' j) so_far.done f.found (both_so (IsFoundIn st j) HasWords (IsFoundIn st' j) found_still so_far.done seen.found so_far.long) found_now;
      once = once_on;
    }

  pub looking_on : w ≡ cond (wants st p.name.key p.name.version) (record v { entries = v.entries + 1; words = v.words + (p.next - p.place) }) v → Looking s log old st' j p.next (r && alone) w
  looking_on is = record {
    done = so_far.done ++ f.found ∷ [];
    split = split_on;
    count = count_on s log old j place p v w f so_far.count (is ∙ ap (λ (b : Bool). cond b (record v { entries = v.entries + 1; words = v.words + (p.next - p.place) }) v) wants_was);
    long = and_last HasWords so_far.done f.found so_far.long some_words;
    seen = λ all. (let both = and_parts r alone all in seen_on both.0 (so_far.seen both.1));
    others = λ k n. by k n (name_eq (p.name.key, p.name.version) (k, n)) refl;
  }
    where
      wants_was : wants st p.name.key p.name.version ≡ wants old p.name.key p.name.version
      wants_was = λ i. (same.counts p.name.key p.name.version i == 1) && not (same.told p.name.key p.name.version i)

      by : (k n : ℕ) (b : Bool) → name_eq (p.name.key, p.name.version) (k, n) ≡ b → (spot_of st' k n ≡ spot_of old k n) ⊎ ((count_of old k n ≡ 1) × (has_name (entries_in s log j) k n ≡ true))
      by k n false isnt = ⊎_elim (λ e. inl (L.others k n isnt ∙ e)) (λ e. inr e) (so_far.others k n)
      by k n true is =
          let e = same_name p.name.key p.name.version k n is in
          ⊎_elim
          (λ (here : spot_of st' p.name.key p.name.version ≡ spot_of st p.name.key p.name.version). ⊎_elim (λ was. inl ((λ t. spot_of st' (sym e.0 t) (sym e.1 t)) ∙ here ∙ (λ t. spot_of st (e.0 t) (e.1 t)) ∙ was)) (λ was. inr was) (so_far.others k n))
          (λ (one : count_of st p.name.key p.name.version ≡ 1). inr (sym (same.counts k n) ∙ (λ t. count_of st (sym e.0 t) (sym e.1 t)) ∙ one, there k n (sym (name_is k n) ∙ is)))
          L.lone

-- Reading ends there, where no entry is left or what was found doesn't fit.
module _ (s : State) (log : LogState) (old st : StandingState) (room : Room) (j place : ℕ) (alone : Bool) (v : Victim) (so_far : Looking s log old st j place alone v) (chunk : v.chunk ≡ j) where
  are_done : take (length so_far.done) (entries_in s log j) ≡ so_far.done
  are_done = ap (take (length so_far.done)) (sym so_far.split) ∙ take-append_seam so_far.done (behind place (entries_in s log j))

  pub looking_ends : (fits room v ≡ true → behind place (entries_in s log j) ≡ []) → IsRead s log old st room j v alone
  looking_ends ends = record {
    many = length so_far.done;
    left = count_ends old (entries_in s log j) so_far.done j place v so_far.count so_far.split chunk ∙ ap (λ (l : List (ℕ × Entry)). tally_of j (left_to_copy old l)) (sym are_done);
    whole = λ fit. are_done ∙ append_none so_far.done (behind place (entries_in s log j)) (ends fit) ∙ so_far.split;
    seen = λ on. subst (AreSeen st j) (sym are_done) (so_far.seen on);
    others = so_far.others;
  }

pub forgets_itself : (st : StandingState) (j : ℕ) → Forgets st st j
forgets_itself st j = record { same = searches_itself st; floors = refl; others = λ k n other. refl }

pub forgets_both : (old mid new : StandingState) (j : ℕ) → Forgets old mid j → Forgets mid new j → Forgets old new j
forgets_both old mid new j a b = record {
  same = searches_both old mid new a.same b.same;
  floors = b.floors ∙ a.floors;
  others = λ k n other. (let was = a.others k n other in b.others k n (λ at. other (ap (λ (p : Spot). p.chunk) (sym was) ∙ at)) ∙ was);
}

-- What is noted of each chunk stays right, and is right of the one that was read.
module _ (s : State) (log : LogState) (old begun mid new : StandingState) (room : Room) (j : ℕ) (v : Victim) (alone : Bool) (stands : IsStandingOf s log old) (forgets : Forgets old begun j) (searches : Searches begun mid) (floors_are : mid.floors ≡ begun.floors) (read : IsRead s log begun mid room j v alone) (closed : IsClosed log j)
    (rest : new ≡ record mid { floors = new.floors }) {amount : Option Amount} (amount_is : amount ≡ cond alone (Some (record { entries = v.entries; words = v.words })) None) (sets : (i : ℕ) → floor_at new i ≡ cond (j == i) amount (floor_at mid i)) (floors : HasFloors s log old) where
  noted : (i : ℕ) → floor_at new i ≡ cond (j == i) (cond alone (Some (record { entries = v.entries; words = v.words })) None) (floor_at mid i)
  noted i = sets i ∙ ap (λ (o : Option Amount). cond (j == i) o (floor_at mid i)) amount_is

  same : Searches old mid
  same = searches_both old begun mid forgets.same searches

  kept : mid.floors ≡ old.floors
  kept = floors_are ∙ forgets.floors

  spot_now : (k n : ℕ) → spot_of new k n ≡ spot_of mid k n
  spot_now k n = ap (λ (x : StandingState). spot_of x k n) rest

  told_now : (k n : ℕ) → is_told new k n ≡ is_told old k n
  told_now k n = ap (λ (x : StandingState). is_told x k n) rest ∙ same.told k n

  count_now : (k n : ℕ) → count_of new k n ≡ count_of old k n
  count_now k n = ap (λ (x : StandingState). count_of x k n) rest ∙ same.counts k n

  pub searched : Searches old new
  searched = record {
    counts = count_now;
    told = told_now;
    names = ap (λ (x : StandingState). length x.entries) rest ∙ same.names;
    room = ap (λ (x : StandingState). x.room) rest ∙ same.room;
    settled = ap (λ (x : StandingState). x.settled) rest ∙ same.settled;
    tally = ap (λ (x : StandingState). x.tally) rest ∙ same.tally;
  }

  left_now : (xs : List (ℕ × Entry)) → left_to_copy new xs ≡ left_to_copy old xs
  left_now xs = left_searched old new searched xs

  -- a name that has one copy stands in one chunk
  in_one : (i : ℕ) → i ≢ j → is_some (tail_of log.chunks i) ≡ true → (k n : ℕ) → has_name (entries_in s log i) k n ≡ true → has_name (entries_in s log j) k n ≡ true → count_of old k n ≡ 1 → ⊥
  in_one i ne there k n here also one =
      let h : ℕ → Bool = λ c. has_name (entries_in s log c) k n in
      let a = stands k n in
      let b = count_without h log.chunks j closed.has in
      let c = count_has h (without log.chunks j) i (ap is_some (without_other log.chunks j i ne) ∙ there) here in
      let d = ap {B = ℕ} (λ (t : Bool). cond t 1 0) also in
      omega (arith, a, b, c, d, one)

  other_found : (i : ℕ) → i ≢ j → is_some (tail_of log.chunks i) ≡ true → (y : ℕ × Entry) → In y (entries_in s log i) → IsFoundIn old i y → IsFoundIn new i y
  other_found i ne there y here found untold = spot_now y.1.key y.1.version ∙ ⊎_elim
      (λ (e : spot_of mid y.1.key y.1.version ≡ spot_of begun y.1.key y.1.version). e ∙ forgets.others y.1.key y.1.version (λ at. ne (ap (λ (p : Spot). p.chunk) (sym was) ∙ at)) ∙ was)
      (λ e. absurd (in_one i ne there y.1.key y.1.version (in_named (entries_in s log i) y here) e.1 (sym (forgets.same.counts y.1.key y.1.version) ∙ e.0)))
      (read.others y.1.key y.1.version) where
        was : spot_of old y.1.key y.1.version ≡ spot_at i y
        was = found (sym (told_now y.1.key y.1.version) ∙ untold)

  others_counted : (i : ℕ) → i ≢ j → (a : Amount) → floor_at mid i ≡ Some a → IsCounted new i a (entries_in s log i)
  others_counted i ne a is =
      let at : floor_at old i ≡ Some a = ap (λ (fs : List (Option Amount)). floor_at (record old { floors = fs }) i) (sym kept) ∙ is in
      let was = floors.counted i a at in
      let front = take was.seen.many (entries_in s log i) in
      let within = in_taken was.seen.many (entries_in s log i) in
      let there = (floors.closed i (ap is_some at)).has in
      let long = ap (λ (l : List (ℕ × Entry)). length l) (left_now front) in
      let words = ap words_sum (left_now front) in
      let e = was.floor.entries in
      let f = was.floor.words in
      record {
        seen = record {
          many = was.seen.many;
          seen = record {
            found = both_so (λ (y : ℕ × Entry). In y front) (IsFoundIn old i) (IsFoundIn new i) (λ y here. other_found i ne there y (within y here)) front (all_in (λ (y : ℕ × Entry). In y front) front (λ y is. is)) was.seen.seen.found;
            once = λ k n untold. was.seen.seen.once k n (sym (told_now k n) ∙ untold);
          };
        };
        floor = record { entries = omega (arith, long, e); words = omega (arith, words, f) };
      }

  here_counted : alone ≡ true → IsCounted new j (record { entries = v.entries; words = v.words }) (entries_in s log j)
  here_counted on =
      let front = take read.many (entries_in s log j) in
      let seen = read.seen on in
      let long = ap (λ (l : List (ℕ × Entry)). length l) (left_now front) in
      let words = ap words_sum (left_now front) in
      let left = read.left ∙ ap (tally_of j) (left_searched old begun forgets.same front) in
      let e = ap (λ (x : Victim). x.entries) left in
      let f = ap (λ (x : Victim). x.words) left in
      record {
        seen = record {
          many = read.many;
          seen = record {
            found = each_so (IsFoundIn mid j) (IsFoundIn new j) (λ y found untold. spot_now y.1.key y.1.version ∙ found (same.told y.1.key y.1.version ∙ sym (told_now y.1.key y.1.version) ∙ untold)) front seen.found;
            once = λ k n untold. seen.once k n (same.told k n ∙ sym (told_now k n) ∙ untold);
          };
        };
        floor = record { entries = omega (arith, long, e); words = omega (arith, words, f) };
      }

  pub floors_searched : HasFloors s log new
  floors_searched = record {
    closed = λ i some. by_closed i (j == i) refl some;
    counted = λ i a is. by i a (j == i) refl alone refl is;
  }
    where
      by_closed : (i : ℕ) (b : Bool) → (j == i) ≡ b → is_some (floor_at new i) ≡ true → IsClosed log i
      by_closed i true here some = subst (IsClosed log) (eqb-true j i here) closed
      by_closed i false isnt some = floors.closed i (ap (λ (fs : List (Option Amount)). is_some (floor_at (record old { floors = fs }) i)) (sym kept) ∙ ap is_some (sym (noted i ∙ cond-false (j == i) (cond alone (Some (record { entries = v.entries; words = v.words })) None) (floor_at mid i) isnt)) ∙ some)

      by : (i : ℕ) (a : Amount) (b : Bool) → (j == i) ≡ b → (d : Bool) → alone ≡ d → floor_at new i ≡ Some a → IsCounted new i a (entries_in s log i)
      by i a false isnt d e is = others_counted i (λ at. (let both : true ≡ false = sym (eq-eqb j i (sym at)) ∙ isnt in cc both)) a (sym (noted i ∙ cond-false (j == i) (cond alone (Some (record { entries = v.entries; words = v.words })) None) (floor_at mid i) isnt) ∙ is)
      by i a true here true on is =
          let now : Some (record { entries = v.entries; words = v.words }) ≡ Some a = sym (noted i ∙ cond-true (j == i) (cond alone (Some (record { entries = v.entries; words = v.words })) None) (floor_at mid i) here ∙ ap (λ (b : Bool). cond b (Some (record { entries = v.entries; words = v.words })) None) on) ∙ is in
          let amount : record { entries = v.entries; words = v.words } ≡ a = cc now in
          subst (λ (i : ℕ). IsCounted new i a (entries_in s log i)) (eqb-true j i here) (subst (λ (a : Amount). IsCounted new j a (entries_in s log j)) amount (here_counted on))
      by i a true here false off is = absurd (let now : None ≡ Some a = sym (noted i ∙ cond-true (j == i) (cond alone (Some (record { entries = v.entries; words = v.words })) None) (floor_at mid i) here ∙ ap (λ (b : Bool). cond b (Some (record { entries = v.entries; words = v.words })) None) off) ∙ is in cc now)
