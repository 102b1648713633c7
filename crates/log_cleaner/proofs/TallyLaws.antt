-- What is left of a chunk, as names are noted of it and wanted no more.
use Rattle.std.proofs.Common.{◌≡◌, ⊎_elim, ℕ, ◌+◌, ◌-◌, ◌≤◌, ◌<◌, ◌==◌, ◌&&◌, not, Bool, true, false, cond, List, [], ◌∷◌, ◌++◌, length, take, Option, Some, None, is_some, refl, sym, ◌∙◌, ap, subst, arith, append_assoc}
use Rattle.std.specs.Prelude.{option_map}
use Rattle.std.specs.List.{filter, sum_by, count_by}
use Rattle.std.proofs.lemmas.Bool.{and_parts, cases_lt, cond-true, cond-false, eq-eqb}
use Rattle.std.proofs.lemmas.List.Sums.{sum_by-append, sum_by-cons}
use Rattle.pm_region.specs.State.{State}
use Rattle.log_entry.specs.declared.entry.Entry.{Entry}
use Rattle.log_entry.specs.Spelling.{words_of}
use Rattle.core_log.specs.declared.types.Peek.{Peek}
use Rattle.core_log.specs.Log.{LogState, Spelled}
use Rattle.core_log.specs.Walking.{entries_in, words_in, behind, IsFound}
use Rattle.core_log.proofs.Clients.{ordered, all_behind}
use Rattle.log_standing.specs.declared.types.Amount.{Amount}
use Rattle.log_standing.specs.declared.types.Copies.{Copies}
use Rattle.log_standing.specs.declared.types.Spot.{Spot}
use Rattle.log_standing.specs.NameCounts.{StandingState, name_eq, copies_at, count_in, count_of, told_in, is_told, spot_in, spot_of, wants, floor_at, floor_in, less_entry, Lowers, LowersFloors, Changes, SameCopies, tally_without}
use Rattle.log_standing.specs.ChunkCounts.{is_named}
use Rattle.log_standing.specs.Tallies.{TallyState, amount_at, entries_held, less, more, words_held}
use Rattle.log_standing.proofs.Clients.{same_name}
use Rattle.log_cleaner.specs.Copying.{awaits, left_to_copy, words_sum}
use Rattle.log_cleaner.specs.Tallied.{words_named, HasAmounts, NotesIf, IsTallyOf, KeepsTally}
use Rattle.log_cleaner.specs.Floors.{HasFloor, HasFloors, IsCounted, IsFoundIn, IsSeen, spot_at}
use Rattle.log_cleaner.proofs.Batches.{name_sym, filter_same}
use Rattle.log_cleaner.proofs.FloorLaws.{SameSpot, each_so, every, floor_kept, none_named, one_named, seen_kept}
use Rattle.log_cleaner.proofs.GatherLaws.{append_none}
use Rattle.log_cleaner.proofs.LessLaws.{sum_ones}

not_true : (b : Bool) → not b ≡ true → b ≡ false
not_true true is = sym is
not_true false is = refl

pub keeps_itself : (st : StandingState) → KeepsTally st st
keeps_itself st = record { less = λ t is. record { tally = t; is = is; entries = omega arith; words = omega arith }; tally = λ es is. is; noted = λ j is. is; floors = λ j es had. had }

pub keeps_both : (old mid new : StandingState) → KeepsTally old mid → KeepsTally mid new → KeepsTally old new
keeps_both old mid new first then = record {
  less = λ t is. (let a = first.less t is in let b = then.less a.tally a.is in let e = a.entries in let f = a.words in let g = b.entries in let h = b.words in record { tally = b.tally; is = b.is; entries = omega (arith, e, g); words = omega (arith, f, h) });
  tally = λ es is. then.tally es (first.tally es is);
  noted = λ j is. first.noted j (then.noted j is);
  floors = λ j es had. then.floors j es (first.floors j es had);
}

-- and so what was noted of each chunk
pub floors_kept : (s : State) (log : LogState) (old new : StandingState) → KeepsTally old new → HasFloors s log old → HasFloors s log new
floors_kept s log old new keeps F = record { closed = λ j some. F.closed j (keeps.noted j some); counted = λ j. keeps.floors j (entries_in s log j) (F.counted j) }

-- where the names stand as before
pub keeps_same : (old new : StandingState) → SameCopies old new → new.tally ≡ old.tally → new.floors ≡ old.floors → KeepsTally old new
keeps_same old new same tally floors = record {
  less = λ t is. record { tally = t; is = tally ∙ is; entries = omega arith; words = omega arith };
  tally = λ es is. record {
    tally = is.tally;
    is = tally ∙ is.is;
    of = record {
      entries = is.of.entries ∙ sym (ap (λ (l : List (ℕ × Entry)). length l) (left es));
      words = is.of.words ∙ sym (ap words_sum (left es));
      each = is.of.each;
    };
  };
  noted = λ j is. ap (λ (fs : List (Option Amount)). is_some (floor_in fs j)) (sym floors) ∙ is;
  floors = λ j es had a is. (let was = had a (ap (λ (fs : List (Option Amount)). floor_in fs j) (sym floors) ∙ is) in record {
    seen = seen_kept old new j es (λ k v untold. ap told_in (sym (same k v)) ∙ untold) (every (SameSpot old new) (λ y. ap spot_in (same y.1.key y.1.version)) es) was.seen;
    floor = floor_kept a old new es (left es) was.floor;
  });
}
  where
    left : (es : List (ℕ × Entry)) → left_to_copy new es ≡ left_to_copy old es
    left es = filter_same (awaits new) (awaits old) es (λ y. ap (λ (o : Option Copies). count_in o == 1 && not (told_in o)) (same y.1.key y.1.version))

-- Of those that pass a test some pass it no more.
module _ {X : Type 0} (w : X → ℕ) (f g m : X → Bool) (was : (x : X) → m x ≡ true → (f x ≡ true) × (g x ≡ false)) (others : (x : X) → m x ≡ false → g x ≡ f x) where
  one_sum : (b : Bool) (x : X) (xs : List X) → sum_by w (cond b (x ∷ xs) xs) ≡ cond b (w x) 0 + sum_by w xs
  one_sum true x xs = sum_by-cons w x xs
  one_sum false x xs = omega arith

  one_less : (x : X) → cond (g x) (w x) 0 + cond (m x) (w x) 0 ≡ cond (f x) (w x) 0
  one_less x = elim (m x) as (λ b. m x ≡ b → cond (g x) (w x) 0 + cond b (w x) 0 ≡ cond (f x) (w x) 0) [
    | true ↦ λ is. let a = ap {B = ℕ} (λ (b : Bool). cond b (w x) 0) (was x is).0 in let b = ap {B = ℕ} (λ (b : Bool). cond b (w x) 0) (was x is).1 in omega (arith, a, b)
    | false ↦ λ isnt. let a = ap {B = ℕ} (λ (b : Bool). cond b (w x) 0) (others x isnt) in omega (arith, a)
  ] refl

  pub sum_without : (xs : List X) → sum_by w (filter g xs) + sum_by (λ x. cond (m x) (w x) 0) xs ≡ sum_by w (filter f xs)
  sum_without [] = refl
  sum_without (x ∷ xs) =
      let rest = sum_without xs in
      let a = one_sum (g x) x (filter g xs) in
      let b = one_sum (f x) x (filter f xs) in
      let c = sum_by-cons (λ (y : X). cond (m y) (w y) 0) x xs in
      let d = one_less x in
      omega (arith, rest, a, b, c, d)

-- A name is wanted no more, whatever it has now.
module _ (old new : StandingState) (k v : ℕ) (now : Option Copies) (changes : Changes old new k v now) (unwanted : wants new k v ≡ false) where
  awaits_other : (y : ℕ × Entry) → is_named k v y ≡ false → awaits new y ≡ awaits old y
  awaits_other y isnt = ap (λ (o : Option Copies). count_in o == 1 && not (told_in o))
      (changes y.1.key y.1.version ∙ cond-false (name_eq (k, v) (y.1.key, y.1.version)) now (copies_at old y.1.key y.1.version) (name_sym k v y.1.key y.1.version ∙ isnt))

  awaits_named : (st : StandingState) (y : ℕ × Entry) → is_named k v y ≡ true → awaits st y ≡ wants st k v
  awaits_named st y is = let e = same_name y.1.key y.1.version k v is in λ i. wants st (e.0 i) (e.1 i)

  -- where it was
  module _ (wanted : wants old k v ≡ true) where
    was : (y : ℕ × Entry) → is_named k v y ≡ true → (awaits old y ≡ true) × (awaits new y ≡ false)
    was y is = (awaits_named old y is ∙ wanted, awaits_named new y is ∙ unwanted)

    fewer_entries : (es : List (ℕ × Entry)) → length (left_to_copy new es) + count_by (is_named k v) es ≡ length (left_to_copy old es)
    fewer_entries es =
        let a = sum_without (λ (x : ℕ × Entry). 1) (awaits old) (awaits new) (is_named k v) was awaits_other es in
        let b = sum_ones (left_to_copy new es) in
        let c = sum_ones (left_to_copy old es) in
        omega (arith, a, b, c)

    fewer_words : (es : List (ℕ × Entry)) → words_sum (left_to_copy new es) + words_named k v es ≡ words_sum (left_to_copy old es)
    fewer_words es = sum_without (λ (x : ℕ × Entry). length (words_of x.1)) (awaits old) (awaits new) (is_named k v) was awaits_other es

    pub lowered_tally : (t : TallyState) (es : List (ℕ × Entry)) → IsTallyOf t old es → IsTallyOf (less k v t) new es
    lowered_tally t es of =
        let a = fewer_entries es in
        let b = fewer_words es in
        let c = of.entries in
        let d = of.words in
        let e = of.each.entries k v in
        let f = of.each.words k v in
        record {
          entries = omega (arith, a, c, e);
          words = omega (arith, b, d, f);
          each = record { entries = of.each.entries; words = of.each.words };
        }

  same_left : wants old k v ≡ false → (es : List (ℕ × Entry)) → left_to_copy new es ≡ left_to_copy old es
  same_left wasnt es = filter_same (awaits new) (awaits old) es (λ y. elim (is_named k v y) as (λ b. is_named k v y ≡ b → awaits new y ≡ awaits old y) [
    | true ↦ λ is. awaits_named new y is ∙ unwanted ∙ sym (awaits_named old y is ∙ wasnt)
    | false ↦ λ isnt. awaits_other y isnt
  ] refl)

  -- the names of the chunks that were counted
  module _ (spot : spot_in now ≡ spot_of old k v) (still : told_in now ≡ false → is_told old k v ≡ false) where
    untold_still : (i w : ℕ) → is_told new i w ≡ false → is_told old i w ≡ false
    untold_still i w = by (name_eq (k, v) (i, w)) refl where
      by : (b : Bool) → name_eq (k, v) (i, w) ≡ b → is_told new i w ≡ false → is_told old i w ≡ false
      by true is untold =
          let e = same_name k v i w is in
          (λ t. is_told old (sym e.0 t) (sym e.1 t)) ∙ still (ap told_in (sym (cond-true (name_eq (k, v) (i, w)) now (copies_at old i w) is) ∙ sym (changes i w)) ∙ untold)
      by false isnt untold = ap told_in (sym (changes i w ∙ cond-false (name_eq (k, v) (i, w)) now (copies_at old i w) isnt)) ∙ untold

    spot_same : (i w : ℕ) → spot_of new i w ≡ spot_of old i w
    spot_same i w = by (name_eq (k, v) (i, w)) refl where
      by : (b : Bool) → name_eq (k, v) (i, w) ≡ b → spot_of new i w ≡ spot_of old i w
      by true is = let e = same_name k v i w is in ap spot_in (changes i w ∙ cond-true (name_eq (k, v) (i, w)) now (copies_at old i w) is) ∙ spot ∙ (λ t. spot_of old (e.0 t) (e.1 t))
      by false isnt = ap spot_in (changes i w ∙ cond-false (name_eq (k, v) (i, w)) now (copies_at old i w) isnt)

    abbrev seen_still : (j : ℕ) (es : List (ℕ × Entry)) → IsSeen old j es → IsSeen new j es
    seen_still j es = seen_kept old new j es untold_still (every (SameSpot old new) (λ y. spot_same y.1.key y.1.version) es)

    floor_unwanted : wants old k v ≡ false → new.floors ≡ old.floors → (j : ℕ) (es : List (ℕ × Entry)) → HasFloor old j es → HasFloor new j es
    floor_unwanted wasnt same j es had a is = let was = had a (ap (λ (fs : List (Option Amount)). floor_in fs j) (sym same) ∙ is) in record {
      seen = seen_still j es was.seen;
      floor = floor_kept a old new es (same_left wasnt es) was.floor;
    }

    -- an entry of the name is the one that was found
    named_found : wants old k v ≡ true → (j : ℕ) (y : ℕ × Entry) → IsFoundIn old j y → is_named k v y ≡ true → spot_of old k v ≡ spot_at j y
    named_found wanted j y found is =
        let e = same_name y.1.key y.1.version k v is in
        let both = and_parts (count_of old k v == 1) (not (is_told old k v)) wanted in
        let untold : is_told old k v ≡ false = not_true (is_told old k v) both.1 in
        (λ t. spot_of old (sym e.0 t) (sym e.1 t)) ∙ found ((λ t. is_told old (e.0 t) (e.1 t)) ∙ untold)

    is_untold : wants old k v ≡ true → is_told old k v ≡ false
    is_untold wanted = not_true (is_told old k v) (and_parts (count_of old k v == 1) (not (is_told old k v)) wanted).1

    floor_wanted : wants old k v ≡ true → Lowers old.floors new.floors (spot_of old k v) → (j : ℕ) (es : List (ℕ × Entry)) → HasFloor old j es → HasFloor new j es
    floor_wanted wanted lowers j es had a is = by ((spot_of old k v).chunk == j) refl (floor_at old j) refl where
      at : ℕ → Spot → Option Amount → Option Amount
      at i s o = cond (s.chunk == i) (option_map (less_entry s.words) o) o

      by : (b : Bool) → ((spot_of old k v).chunk == j) ≡ b → (o : Option Amount) → floor_at old j ≡ o → IsCounted new j a es
      by true here None none = absurd (let e : Some a ≡ None = sym is ∙ lowers j ∙ cond-true ((spot_of old k v).chunk == j) (option_map (less_entry (spot_of old k v).words) (floor_at old j)) (floor_at old j) here ∙ ap (option_map (less_entry (spot_of old k v).words)) none in cc e)
      by true here (Some was) at =
          let w = (spot_of old k v).words in
          let now : Some (less_entry w was) ≡ Some a = sym (lowers j ∙ cond-true ((spot_of old k v).chunk == j) (option_map (less_entry w) (floor_at old j)) (floor_at old j) here ∙ ap (option_map (less_entry w)) at) ∙ is in
          let same : less_entry w was ≡ a = cc now in
          let had_it = had was at in
          let front = take had_it.seen.many es in
          let once = had_it.seen.seen.once k v (is_untold wanted) in
          let named = one_named k v w front (each_so (IsFoundIn old j) (λ (y : ℕ × Entry). is_named k v y ≡ true → length (words_of y.1) ≡ w) (λ y found is_it. ap (λ (p : Spot). p.words) (sym (named_found wanted j y found is_it))) front had_it.seen.seen.found) once in
          let entries = fewer_entries wanted front in
          let words = fewer_words wanted front in
          let e = had_it.floor.entries in
          let f = had_it.floor.words in
          let g = ap (λ (x : Amount). x.entries) same in
          let h = ap (λ (x : Amount). x.words) same in
          let n = named.0 in
          record {
            seen = seen_still j es had_it.seen;
            floor = record { entries = omega (arith, entries, e, g, once); words = omega (arith, words, f, h, n) };
          }
      by false other o at =
          let had_it = had a (sym (lowers j ∙ cond-false ((spot_of old k v).chunk == j) (option_map (less_entry (spot_of old k v).words) (floor_at old j)) (floor_at old j) other) ∙ is) in
          let front = take had_it.seen.many es in
          let none = none_named k v front (each_so (IsFoundIn old j) (λ (y : ℕ × Entry). is_named k v y ≡ true → ⊥) (λ y found is_it. (let there = ap (λ (p : Spot). p.chunk) (named_found wanted j y found is_it) in let both : false ≡ true = sym other ∙ eq-eqb (spot_of old k v).chunk j there in cc both)) front had_it.seen.seen.found) in
          let entries = fewer_entries wanted front in
          let words = fewer_words wanted front in
          let e = had_it.floor.entries in
          let f = had_it.floor.words in
          let n = none.0 in
          let m = none.1 in
          record {
            seen = seen_still j es had_it.seen;
            floor = record { entries = omega (arith, entries, e, n); words = omega (arith, words, f, m) };
          }

    noted_wanted : Lowers old.floors new.floors (spot_of old k v) → (j : ℕ) → is_some (floor_at new j) ≡ true → is_some (floor_at old j) ≡ true
    noted_wanted lowers j some = by ((spot_of old k v).chunk == j) (floor_at old j) (ap (λ (o : Option Amount). is_some o) (sym (lowers j)) ∙ some) where
      by : (b : Bool) (o : Option Amount) → is_some (cond b (option_map (less_entry (spot_of old k v).words) o) o) ≡ true → is_some o ≡ true
      by true None none = none
      by true (Some x) is = refl
      by false o is = is

    pub wanted_no_more : new.tally ≡ tally_without old k v → LowersFloors old new k v → KeepsTally old new
    wanted_no_more tally floors = elim (wants old k v) as (λ b. wants old k v ≡ b → KeepsTally old new) [
      | true ↦ λ wanted. record {
        less = λ t is. record {
          tally = less k v t;
          is = tally ∙ cond-true (wants old k v) (option_map (less k v) old.tally) old.tally wanted ∙ ap (λ (o : Option TallyState). option_map (less k v) o) is;
          entries = omega arith;
          words = omega arith;
        };
        tally = λ es is. record {
          tally = less k v is.tally;
          is = tally ∙ cond-true (wants old k v) (option_map (less k v) old.tally) old.tally wanted ∙ ap (λ (o : Option TallyState). option_map (less k v) o) is.is;
          of = lowered_tally wanted is.tally es is.of;
        };
        noted = noted_wanted (floors.wanted wanted);
        floors = floor_wanted wanted (floors.wanted wanted);
      }
      | false ↦ λ wasnt. record {
        less = λ t is. record { tally = t; is = tally ∙ cond-false (wants old k v) (option_map (less k v) old.tally) old.tally wasnt ∙ is; entries = omega arith; words = omega arith };
        tally = λ es is. record {
          tally = is.tally;
          is = tally ∙ cond-false (wants old k v) (option_map (less k v) old.tally) old.tally wasnt ∙ is.is;
          of = record {
            entries = is.of.entries ∙ sym (ap (λ (l : List (ℕ × Entry)). length l) (same_left wasnt es));
            words = is.of.words ∙ sym (ap words_sum (same_left wasnt es));
            each = is.of.each;
          };
        };
        noted = λ j is. ap (λ (fs : List (Option Amount)). is_some (floor_in fs j)) (sym (floors.unwanted wasnt)) ∙ is;
        floors = floor_unwanted wasnt (floors.unwanted wasnt);
      }
    ] refl

-- the entries before a place are noted
pub record Tallying (t : TallyState) (es : List (ℕ × Entry)) (place : ℕ) : Type 0 where
  pub done : List (ℕ × Entry)
  pub split : done ++ behind place es ≡ es
  pub each : HasAmounts t done
  pub room : length (behind place es) ≤ t.room

-- no name has more than was read
pub record IsBelow (t : TallyState) (place : ℕ) : Type 0 where
  pub entries : (k v : ℕ) → entries_held (amount_at t k v) ≤ place
  pub words : (k v : ℕ) → words_held (amount_at t k v) ≤ place

none_noted : (t : TallyState) (k v : ℕ) → t.names ≡ [] → amount_at t k v ≡ None
none_noted t k v none = ap (λ (l : List ((ℕ × ℕ) × Amount)). amount_at (record t { names = l }) k v) none

pub below_starts : (t : TallyState) → t.names ≡ [] → IsBelow t 0
below_starts t none = record {
  entries = λ k v. (let e = ap entries_held (none_noted t k v none) in omega (arith, e));
  words = λ k v. (let e = ap words_held (none_noted t k v none) in omega (arith, e));
}

pub tally_starts : (s : State) (log : LogState) (j : ℕ) (t : TallyState) → Spelled (words_in s log j) → t.names ≡ [] → length (entries_in s log j) ≤ t.room → Tallying t (entries_in s log j) 0
tally_starts s log j t spelled none room =
    let all = all_behind (entries_in s log j) 0 (ordered (words_in s log j) spelled) in
    let long = ap (λ (l : List (ℕ × Entry)). length l) all in
    record {
      done = [];
      split = all;
      each = record { entries = λ k v. ap entries_held (none_noted t k v none); words = λ k v. ap words_held (none_noted t k v none) };
      room = omega (arith, long, room);
    }

pub below_on : (old new : TallyState) (place : ℕ) (p : Peek) → IsBelow old place → NotesIf old new p → (place ≤ p.place) × (p.place < p.next) → IsBelow new p.next
below_on old new place p below notes within = ⊎_elim
    (λ (some : 0 < old.room). record {
      entries = λ k v. (let a = below.entries k v in let b = below.entries p.name.key p.name.version in
          let e = ap entries_held (notes.noted some k v) ∙ entries_cond (name_eq (p.name.key, p.name.version) (k, v)) (more (amount_at old p.name.key p.name.version) (p.next - p.place)) (amount_at old k v) in
          le_cond (name_eq (p.name.key, p.name.version) (k, v)) _ _ _ _ e (omega (arith, b, within.0, within.1)) (omega (arith, a, within.0, within.1)));
      words = λ k v. (let a = below.words k v in let b = below.words p.name.key p.name.version in
          let e = ap words_held (notes.noted some k v) ∙ words_cond (name_eq (p.name.key, p.name.version) (k, v)) (more (amount_at old p.name.key p.name.version) (p.next - p.place)) (amount_at old k v) in
          le_cond (name_eq (p.name.key, p.name.version) (k, v)) _ _ _ _ e (omega (arith, b, within.0, within.1)) (omega (arith, a, within.0, within.1)));
    })
    (λ (none : old.room ≤ 0). subst (λ (t : TallyState). IsBelow t p.next) (sym (notes.full (omega (arith, none)))) (record {
      entries = λ k v. (let a = below.entries k v in omega (arith, a, within.0, within.1));
      words = λ k v. (let a = below.words k v in omega (arith, a, within.0, within.1));
    }))
    (cases_lt 0 old.room)
  where
    entries_cond : (b : Bool) (a : Amount) (o : Option Amount) → entries_held (cond b (Some a) o) ≡ cond b a.entries (entries_held o)
    entries_cond true a o = refl
    entries_cond false a o = refl

    words_cond : (b : Bool) (a : Amount) (o : Option Amount) → words_held (cond b (Some a) o) ≡ cond b a.words (words_held o)
    words_cond true a o = refl
    words_cond false a o = refl

    le_cond : (b : Bool) (n x y most : ℕ) → n ≡ cond b x y → x ≤ most → y ≤ most → n ≤ most
    le_cond true n x y most is le other = omega (arith, is, le)
    le_cond false n x y most is le other = omega (arith, is, other)

module _ (s : State) (log : LogState) (j place : ℕ) (p : Peek) (old new : TallyState) (f : IsFound s log j place p) (so_far : Tallying old (entries_in s log j) place) (notes : NotesIf old new p) where
  es : List (ℕ × Entry)
  es = entries_in s log j

  some : 0 < old.room
  some = let long = ap (λ (l : List (ℕ × Entry)). length l) f.left in let room = so_far.room in omega (arith, long, room)

  name_is : (k v : ℕ) → name_eq (p.name.key, p.name.version) (k, v) ≡ is_named k v f.found
  name_is k v = λ i. name_eq (f.key i, f.version i) (k, v)

  size : p.next - p.place ≡ length (words_of f.found.1)
  size = let next = f.next in omega (arith, next)

  at_name : (k v : ℕ) → is_named k v f.found ≡ true → amount_at old p.name.key p.name.version ≡ amount_at old k v
  at_name k v is = let e = same_name p.name.key p.name.version k v (name_is k v ∙ is) in λ i. amount_at old (e.0 i) (e.1 i)

  noted_entries : (k v : ℕ) → entries_held (amount_at new k v) ≡ entries_held (amount_at old k v) + cond (is_named k v f.found) 1 0
  noted_entries k v = elim (is_named k v f.found) as (λ b. is_named k v f.found ≡ b → entries_held (amount_at new k v) ≡ entries_held (amount_at old k v) + cond b 1 0) [
    | true ↦ λ is. ap entries_held (notes.noted some k v ∙ cond-true (name_eq (p.name.key, p.name.version) (k, v)) (Some (more (amount_at old p.name.key p.name.version) (p.next - p.place))) (amount_at old k v) (name_is k v ∙ is)) ∙ ap (λ (o : Option Amount). entries_held o + 1) (at_name k v is)
    | false ↦ λ isnt. (let e = ap entries_held (notes.noted some k v ∙ cond-false (name_eq (p.name.key, p.name.version) (k, v)) (Some (more (amount_at old p.name.key p.name.version) (p.next - p.place))) (amount_at old k v) (name_is k v ∙ isnt)) in omega (arith, e))
  ] refl

  noted_words : (k v : ℕ) → words_held (amount_at new k v) ≡ words_held (amount_at old k v) + cond (is_named k v f.found) (length (words_of f.found.1)) 0
  noted_words k v = elim (is_named k v f.found) as (λ b. is_named k v f.found ≡ b → words_held (amount_at new k v) ≡ words_held (amount_at old k v) + cond b (length (words_of f.found.1)) 0) [
    | true ↦ λ is. (let e = ap words_held (notes.noted some k v ∙ cond-true (name_eq (p.name.key, p.name.version) (k, v)) (Some (more (amount_at old p.name.key p.name.version) (p.next - p.place))) (amount_at old k v) (name_is k v ∙ is)) ∙ ap (λ (o : Option Amount). words_held o + (p.next - p.place)) (at_name k v is) in let n = size in omega (arith, e, n))
    | false ↦ λ isnt. (let e = ap words_held (notes.noted some k v ∙ cond-false (name_eq (p.name.key, p.name.version) (k, v)) (Some (more (amount_at old p.name.key p.name.version) (p.next - p.place))) (amount_at old k v) (name_is k v ∙ isnt)) in omega (arith, e))
  ] refl

  pub tally_on : Tallying new (entries_in s log j) p.next
  tally_on = record {
    done = so_far.done ++ f.found ∷ [];
    split = append_assoc so_far.done (f.found ∷ []) (behind p.next (entries_in s log j)) ∙ ap (λ (l : List (ℕ × Entry)). so_far.done ++ l) (sym f.left) ∙ so_far.split;
    each = record {
      entries = λ k v. (let a = noted_entries k v in let b = so_far.each.entries k v in let c = sum_by-append (λ (x : ℕ × Entry). cond (is_named k v x) 1 0) so_far.done (f.found ∷ []) in
          let d = sum_by-cons (λ (x : ℕ × Entry). cond (is_named k v x) 1 0) f.found [] in omega (arith, a, b, c, d));
      words = λ k v. (let a = noted_words k v in let b = so_far.each.words k v in let c = sum_by-append (λ (x : ℕ × Entry). cond (is_named k v x) (length (words_of x.1)) 0) so_far.done (f.found ∷ []) in
          let d = sum_by-cons (λ (x : ℕ × Entry). cond (is_named k v x) (length (words_of x.1)) 0) f.found [] in omega (arith, a, b, c, d));
    };
    room = (let long = ap (λ (l : List (ℕ × Entry)). length l) f.left in let room = so_far.room in let less = notes.room in omega (arith, long, room, less));
  }

pub tally_ends : (t : TallyState) (es : List (ℕ × Entry)) (place : ℕ) → Tallying t es place → behind place es ≡ [] → HasAmounts t es
tally_ends t es place so_far none = subst (HasAmounts t) (append_none so_far.done (behind place es) none ∙ so_far.split) so_far.each
