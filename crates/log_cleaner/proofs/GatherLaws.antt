-- The names of a chunk, noted entry by entry.
use Rattle.std.proofs.Common.{◌≡◌, ℕ, zero, suc, ◌+◌, ◌≤◌, ◌<◌, ◌&&◌, ◌||◌, Bool, true, false, cond, List, [], ◌∷◌, ◌++◌, length, Some, refl, sym, ◌∙◌, ap, subst, arith, append_assoc, length-append}
use Rattle.std.proofs.lemmas.List.Sums.{sum_by-append, sum_by-cons}
use Rattle.pm_region.specs.State.{State}
use Rattle.log_entry.specs.declared.entry.Entry.{Entry}
use Rattle.log_entry.specs.declared.entry.EntryName.{EntryName}
use Rattle.core_log.specs.declared.types.Peek.{Peek}
use Rattle.core_log.specs.Log.{LogState, Spelled}
use Rattle.core_log.specs.Walking.{entries_in, words_in, behind, IsFound}
use Rattle.log_standing.specs.NameCounts.{StandingState, name_eq, copies_at, count_of, times_in, one_more, Changes, bit}
use Rattle.log_standing.specs.ChunkCounts.{is_named, has_name}
use Rattle.log_cleaner.specs.Clearing.{ClearingState, IsFresh, is_doomed, AreLone, AreNoted, HasNames, HasDoomed, IsGathered, NotesNew}
use Rattle.log_standing.proofs.Clients.{same_name, count_added, has_push, again_named, new_named}
use Rattle.core_log.proofs.Clients.{ordered, all_behind}

-- the entries before a place are noted
pub record Gathering (st : StandingState) (es : List (ℕ × Entry)) (place : ℕ) (c : ClearingState) : Type 0 where
  pub done : List (ℕ × Entry)
  pub split : done ++ behind place es ≡ es
  pub names : HasNames c.names done
  pub doomed : HasDoomed c.doomed st done
  pub room : length (behind place es) ≤ c.room

pub gather_starts : (s : State) (log : LogState) (st : StandingState) (j : ℕ) (c : ClearingState) → Spelled (words_in s log j) → IsFresh c → length (entries_in s log j) ≤ c.room → Gathering st (entries_in s log j) 0 c
gather_starts s log st j c spelled fresh room =
    let all = all_behind (entries_in s log j) 0 (ordered (words_in s log j) spelled) in
    let long = ap (λ (l : List (ℕ × Entry)). length l) all in
    record {
      done = [];
      split = all;
      names = λ k v. ap (λ (ns : List EntryName). times_in ns k v) fresh.0;
      doomed = λ k v. ap (λ (ns : List EntryName). times_in ns k v) fresh.1;
      room = omega (arith, long, room);
    }

cond_bit : (b : Bool) → 0 + cond b 1 0 ≡ bit b
cond_bit true = refl
cond_bit false = refl

pub times_push : (ns : List EntryName) (n : EntryName) (k v : ℕ) → times_in (ns ++ n ∷ []) k v ≡ times_in ns k v + bit (name_eq (n.key, n.version) (k, v))
times_push ns n k v = sum_by-append (λ (m : EntryName). cond (name_eq (m.key, m.version) (k, v)) 1 0) ns (n ∷ []) ∙ ap (λ (t : ℕ). times_in ns k v + t) (cond_bit (name_eq (n.key, n.version) (k, v)))

-- truth values
new_doomed : (h q d e : Bool) → (q ≡ true → h ≡ false) → (q ≡ true → d ≡ e) → bit (h && d) + cond e (bit q) 0 ≡ bit ((h || (q || false)) && d)
new_doomed true true d e none same = absurd (cc (none refl))
new_doomed true false true true none same = refl
new_doomed true false true false none same = refl
new_doomed true false false true none same = refl
new_doomed true false false false none same = refl
new_doomed false true true true none same = refl
new_doomed false true true false none same = absurd (cc (same refl))
new_doomed false true false true none same = absurd (cc (same refl))
new_doomed false true false false none same = refl
new_doomed false false d true none same = refl
new_doomed false false d false none same = refl

pushed_if : (b : Bool) (ns : List EntryName) (n : EntryName) (k v : ℕ) → times_in (cond b (ns ++ n ∷ []) ns) k v ≡ times_in ns k v + cond b (bit (name_eq (n.key, n.version) (k, v))) 0
pushed_if true ns n k v = times_push ns n k v
pushed_if false ns n k v = omega arith

module _ (s : State) (log : LogState) (st : StandingState) (j place : ℕ) (p : Peek) (c new : ClearingState) (f : IsFound s log j place p) (so_far : Gathering st (entries_in s log j) place c)
    (again : 0 < times_in c.names p.name.key p.name.version → new ≡ c) (first : times_in c.names p.name.key p.name.version ≡ 0 → 0 < c.room → NotesNew st c new p.name) where
  es : List (ℕ × Entry)
  es = entries_in s log j

  done : List (ℕ × Entry)
  done = so_far.done ++ f.found ∷ []

  split : done ++ behind p.next es ≡ es
  unfolding done es
  split = append_assoc so_far.done (f.found ∷ []) (behind p.next (entries_in s log j)) ∙ ap (λ (l : List (ℕ × Entry)). so_far.done ++ l) (sym f.left) ∙ so_far.split

  shorter : length (behind p.next es) + 1 ≤ c.room
  unfolding es
  shorter = let long = ap (λ (l : List (ℕ × Entry)). length l) f.left in let room = so_far.room in omega (arith, long, room)

  name_is : (k v : ℕ) → name_eq (p.name.key, p.name.version) (k, v) ≡ is_named k v f.found
  name_is k v = λ i. name_eq (f.key i, f.version i) (k, v)

  -- the name of the entry
  same : (k v : ℕ) → is_named k v f.found ≡ true → (p.name.key ≡ k) × (p.name.version ≡ v)
  same k v is = same_name p.name.key p.name.version k v (name_is k v ∙ is)

  seen : has_name so_far.done p.name.key p.name.version ≡ true → Gathering st es p.next new
  unfolding done es
  seen had =
      let more : 0 < times_in c.names p.name.key p.name.version = let e = so_far.names p.name.key p.name.version ∙ ap bit had in omega (arith, e) in
      let stays = again more in
      let known : (k v : ℕ) → has_name done k v ≡ has_name so_far.done k v = λ k v. has_push so_far.done f.found k v ∙ again_named (has_name so_far.done k v) (is_named k v f.found) (λ is. let e = same k v is in sym (λ i. has_name so_far.done (e.0 i) (e.1 i)) ∙ had) in
      record {
        done = done;
        split = split;
        names = λ k v. ap (λ (d : ClearingState). times_in d.names k v) stays ∙ so_far.names k v ∙ sym (ap bit (known k v));
        doomed = λ k v. ap (λ (d : ClearingState). times_in d.doomed k v) stays ∙ so_far.doomed k v ∙ sym (ap (λ (b : Bool). bit (b && is_doomed st k v)) (known k v));
        room = let e = ap (λ (d : ClearingState). d.room) stays in let a = shorter in omega (arith, e, a);
      }

  fresh : has_name so_far.done p.name.key p.name.version ≡ false → Gathering st es p.next new
  unfolding done es
  fresh hadnt =
      let a = shorter in
      let notes = first (so_far.names p.name.key p.name.version ∙ ap bit hadnt) (omega (arith, a)) in
      let none : (k v : ℕ) → is_named k v f.found ≡ true → has_name so_far.done k v ≡ false = λ k v is. let e = same k v is in sym (λ i. has_name so_far.done (e.0 i) (e.1 i)) ∙ hadnt in
      let here : (k v : ℕ) → is_named k v f.found ≡ true → is_doomed st k v ≡ is_doomed st p.name.key p.name.version = λ k v is. let e = same k v is in sym (λ i. is_doomed st (e.0 i) (e.1 i)) in
      record {
        done = done;
        split = split;
        names = λ k v. ap (λ (ns : List EntryName). times_in ns k v) notes.names ∙ times_push c.names p.name k v ∙ (λ i. so_far.names k v i + bit (name_is k v i)) ∙ new_named (has_name so_far.done k v) (is_named k v f.found) (none k v) ∙ sym (ap bit (has_push so_far.done f.found k v));
        doomed = λ k v. ap (λ (ns : List EntryName). times_in ns k v) notes.doomed ∙ pushed_if (is_doomed st p.name.key p.name.version) c.doomed p.name k v ∙ (λ i. so_far.doomed k v i + cond (is_doomed st p.name.key p.name.version) (bit (name_is k v i)) 0)
            ∙ new_doomed (has_name so_far.done k v) (is_named k v f.found) (is_doomed st k v) (is_doomed st p.name.key p.name.version) (none k v) (here k v) ∙ sym (ap (λ (b : Bool). bit (b && is_doomed st k v)) (has_push so_far.done f.found k v));
        room = let r = notes.room in omega (arith, r, a);
      }

  pub gather_on : Gathering st (entries_in s log j) p.next new
  unfolding es
  gather_on = elim (has_name so_far.done p.name.key p.name.version) as (λ b. has_name so_far.done p.name.key p.name.version ≡ b → Gathering st (entries_in s log j) p.next new) [
    | true ↦ λ is. seen is
    | false ↦ λ isnt. fresh isnt
  ] refl

pub append_none : (xs ys : List (ℕ × Entry)) → ys ≡ [] → xs ≡ xs ++ ys
append_none [] ys none = sym none
append_none (x ∷ xs) ys none = ap (λ (l : List (ℕ × Entry)). x ∷ l) (append_none xs ys none)

-- all are noted
pub gather_ends : (st : StandingState) (es : List (ℕ × Entry)) (place : ℕ) (c : ClearingState) → Gathering st es place c → behind place es ≡ [] → IsGathered st es c
gather_ends st es place c so_far none =
    let all : so_far.done ≡ es = append_none so_far.done (behind place es) none ∙ so_far.split in
    record {
      names = λ k v. so_far.names k v ∙ ap (λ (l : List (ℕ × Entry)). bit (has_name l k v)) all;
      doomed = λ k v. so_far.doomed k v ∙ ap (λ (l : List (ℕ × Entry)). bit (has_name l k v && is_doomed st k v)) all;
    }

bit_le : (b : Bool) → bit b ≤ 1
bit_le true = omega arith
bit_le false = omega arith

pub noted_seen : (old new : StandingState) (ns : List EntryName) (n : EntryName) → ((k v : ℕ) → count_of old k v ≡ times_in ns k v) → Changes old new n.key n.version (Some (one_more (copies_at old n.key n.version)))
    → (k v : ℕ) → count_of new k v ≡ times_in (ns ++ n ∷ []) k v
noted_seen old new ns n seen changes k v = count_added old new n.key n.version changes k v ∙ ap (λ (t : ℕ). t + bit (name_eq (n.key, n.version) (k, v))) (seen k v) ∙ sym (times_push ns n k v)

pub noted_once : (ns : List EntryName) (n : EntryName) → times_in ns n.key n.version ≡ 0 → ((k v : ℕ) → times_in ns k v ≤ 1) → (k v : ℕ) → times_in (ns ++ n ∷ []) k v ≤ 1
noted_once ns n none once k v = elim (name_eq (n.key, n.version) (k, v)) as (λ b. name_eq (n.key, n.version) (k, v) ≡ b → times_in (ns ++ n ∷ []) k v ≤ 1) [
  | true ↦ λ is. let e = same_name n.key n.version k v is in let a : times_in ns k v ≡ 0 = sym (λ i. times_in ns (e.0 i) (e.1 i)) ∙ none in let b = times_push ns n k v in let c = bit_le (name_eq (n.key, n.version) (k, v)) in omega (arith, a, b, c)
  | false ↦ λ isnt. let b = times_push ns n k v ∙ ap (λ (q : Bool). times_in ns k v + bit q) isnt in let c = once k v in omega (arith, b, c)
] refl

pub pushed_long : (b : Bool) (xs : List EntryName) (n : EntryName) → length (cond b (xs ++ n ∷ []) xs) ≤ length xs + 1
pushed_long true xs n = let e = length-append xs (n ∷ []) in omega (arith, e)
pushed_long false xs n = omega arith

-- each name that is to vanish takes a place of those that there were
pub few_on : (most : ℕ) (st : StandingState) (old new : ClearingState) (n : EntryName) → length old.doomed + old.room ≤ most → (0 < times_in old.names n.key n.version → new ≡ old) → (times_in old.names n.key n.version ≡ 0 → 0 < old.room → NotesNew st old new n) → (old.room ≡ 0 → new ≡ old) → length new.doomed + new.room ≤ most
few_on most st old new n few again first full = by_times (times_in old.names n.key n.version) refl where
  stays : new ≡ old → length new.doomed + new.room ≤ most
  stays e = subst (λ (c : ClearingState). length c.doomed + c.room ≤ most) (sym e) few

  by_room : times_in old.names n.key n.version ≡ 0 → (r : ℕ) → old.room ≡ r → length new.doomed + new.room ≤ most
  by_room none zero e = stays (full e)
  by_room none (suc r) e =
      let N = first none (omega (arith, e)) in
      let long = pushed_long (is_doomed st n.key n.version) old.doomed n in
      let list = ap (λ (ns : List EntryName). length ns) N.doomed in
      let room = N.room in
      omega (arith, few, long, list, room)

  by_times : (i : ℕ) → times_in old.names n.key n.version ≡ i → length new.doomed + new.room ≤ most
  by_times zero e = by_room e old.room refl
  by_times (suc i) e = stays (again (omega (arith, e)))

-- whatever is read, only lone dead names are to vanish
pub lone_first : (st : StandingState) (c : ClearingState) → IsFresh c → AreLone st c.doomed
lone_first st c fresh k v some = absurd (let none = ap (λ (ns : List EntryName). times_in ns k v) fresh.1 in omega (arith, none, some))

lone_more : (st : StandingState) (ns : List EntryName) (n : EntryName) (b : Bool) → is_doomed st n.key n.version ≡ b → AreLone st ns → AreLone st (cond b (ns ++ n ∷ []) ns)
lone_more st ns n false e lone k v some = lone k v some
lone_more st ns n true e lone k v some = by (name_eq (n.key, n.version) (k, v)) refl where
  split : times_in (ns ++ n ∷ []) k v ≡ times_in ns k v + times_in (n ∷ []) k v
  split = sum_by-append (λ (x : EntryName). cond {A = ℕ} (name_eq (x.key, x.version) (k, v)) 1 0) ns (n ∷ [])

  one : times_in (n ∷ []) k v ≡ cond {A = ℕ} (name_eq (n.key, n.version) (k, v)) 1 0 + 0
  one = sum_by-cons (λ (x : EntryName). cond {A = ℕ} (name_eq (x.key, x.version) (k, v)) 1 0) n []

  by : (b : Bool) → name_eq (n.key, n.version) (k, v) ≡ b → is_doomed st k v ≡ true
  by true is = let same = same_name n.key n.version k v is in sym (λ i. is_doomed st (same.0 i) (same.1 i)) ∙ e
  by false is = lone k v (let a = split in let b = one in let z = ap (λ (t : Bool). cond {A = ℕ} t 1 0) is in omega (arith, a, b, z, some))

pub lone_on : (st : StandingState) (old new : ClearingState) (n : EntryName) → AreLone st old.doomed → (0 < times_in old.names n.key n.version → new ≡ old) → (times_in old.names n.key n.version ≡ 0 → 0 < old.room → NotesNew st old new n) → (old.room ≡ 0 → new ≡ old) → AreLone st new.doomed
lone_on st old new n lone again first full = by_times (times_in old.names n.key n.version) refl where
  stays : new ≡ old → AreLone st new.doomed
  stays e = subst (λ (c : ClearingState). AreLone st c.doomed) (sym e) lone

  by_room : times_in old.names n.key n.version ≡ 0 → (r : ℕ) → old.room ≡ r → AreLone st new.doomed
  by_room none zero e = stays (full e)
  by_room none (suc r) e = let N = first none (omega (arith, e)) in subst (AreLone st) (sym N.doomed) (lone_more st old.doomed n (is_doomed st n.key n.version) refl lone)

  by_times : (t : ℕ) → times_in old.names n.key n.version ≡ t → AreLone st new.doomed
  by_times zero e = by_room e old.room refl
  by_times (suc t) e = stays (again (omega (arith, e)))

-- and each of these was noted
pub noted_first : (c : ClearingState) → IsFresh c → AreNoted c
noted_first c fresh k v = let none = ap (λ (ns : List EntryName). times_in ns k v) fresh.1 in omega (arith, none)

noted_more : (names ns : List EntryName) (n : EntryName) (b : Bool) → ((k v : ℕ) → times_in ns k v ≤ times_in names k v) → (k v : ℕ) → times_in (cond b (ns ++ n ∷ []) ns) k v ≤ times_in (names ++ n ∷ []) k v
noted_more names ns n false noted k v = let more = times_push names n k v in let had = noted k v in omega (arith, more, had)
noted_more names ns n true noted k v = let more = times_push names n k v in let all = times_push ns n k v in let had = noted k v in omega (arith, more, all, had)

pub noted_on : (st : StandingState) (old new : ClearingState) (n : EntryName) → AreNoted old → (0 < times_in old.names n.key n.version → new ≡ old) → (times_in old.names n.key n.version ≡ 0 → 0 < old.room → NotesNew st old new n) → (old.room ≡ 0 → new ≡ old) → AreNoted new
noted_on st old new n noted again first full = by_times (times_in old.names n.key n.version) refl where
  stays : new ≡ old → AreNoted new
  stays e = subst AreNoted (sym e) noted

  by_room : times_in old.names n.key n.version ≡ 0 → (r : ℕ) → old.room ≡ r → AreNoted new
  by_room none zero e = stays (full e)
  by_room none (suc r) e =
      let N = first none (omega (arith, e)) in
      λ k v. let names = ap (λ (ns : List EntryName). times_in ns k v) N.names in let doomed = ap (λ (ns : List EntryName). times_in ns k v) N.doomed in let more = noted_more old.names old.doomed n (is_doomed st n.key n.version) noted k v in omega (arith, names, doomed, more)

  by_times : (i : ℕ) → times_in old.names n.key n.version ≡ i → AreNoted new
  by_times zero e = by_room e old.room refl
  by_times (suc i) e = stays (again (omega (arith, e)))
