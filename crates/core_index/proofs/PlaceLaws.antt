-- The map of keys beside the keys of the start.
use Rattle.std.proofs.Common.{◌≡◌, ◌≢◌, ◌⊎◌, inl, inr, ⊎_elim, ℕ, ◌+◌, ◌-◌, ◌*◌, ◌<◌, ◌≤◌, true, List, Option, Some, None, option_map, refl, sym, ◌∙◌, ap, subst, arith}
use Rattle.std.specs.Prelude.{is_some, IfSome, IsTrue}
use Rattle.std.proofs.lemmas.Bool.{cases_eq}
use Rattle.log_entry.specs.declared.entry.EntryName.{EntryName}
use Rattle.core_index.specs.declared.types.Standee.{Standee}
use Rattle.core_index.specs.declared.types.Tombstone.{Tombstone}
use Rattle.core_index.specs.declared.types.TheConstants.{NAMES_OF_CHANGE}
use Rattle.core_index.specs.Records.{KeyRecord, Awaits, settled, told_in, without, is_forgettable}
use Rattle.core_index.specs.Slots.{Place, mortal, lone_deaths, OnlyDead, standee_with}
use Rattle.core_index.specs.declared.start_keys.StartKeys.{StartKeys}
use Rattle.core_index.specs.Noted.{name_with}
use Rattle.core_index.specs.Starts.{started, IsAhead}
use Rattle.core_index.specs.Index.{IsCompact, place_at, known_in, room_in, known_at, room_at, mortal_in, untold_of, untold_by, all_untold, over, all_places, gone_place, Step, Changes, SameRoom, ToldAt, StartTurns, Forgets, GivesBack, Admits, DeadOrAhead}
use Rattle.core_index.proofs.OverLaws.{place_both, untold_both, some_of}
use Rattle.core_index.proofs.LoneLaws.{live_found}
use Rattle.core_index.proofs.StartLaws.{start_no_room}
use Rattle.core_index.proofs.LiveLaws.{less_absent}
use Rattle.core_index.proofs.StandingLaws.{count_added, fewer_others}
use Rattle.log_entry.specs.declared.entry.Body.{Body}
use Rattle.core_index.specs.Lives.{AllLess}
use Rattle.core_index.specs.Tombs.{tomb_home, tomb_version, key_of, left_of, AreLess}

pub place_there : (es : List (ℕ × Place)) (a : StartKeys) (k : ℕ) (p : Place) → place_at es k ≡ Some p → place_at (all_places es a) k ≡ Some p
place_there es a k p is = place_both es (started a) k ∙ ap (λ (o : Option Place). over o (place_at (started a) k)) is

pub place_else : (es : List (ℕ × Place)) (a : StartKeys) (k : ℕ) → place_at es k ≡ None → place_at (all_places es a) k ≡ place_at (started a) k
place_else es a k none = place_both es (started a) k ∙ ap (λ (o : Option Place). over o (place_at (started a) k)) none

pub known_there : (es : List (ℕ × Place)) (a : StartKeys) (k : ℕ) (p : Place) → place_at es k ≡ Some p → known_at (all_places es a) k ≡ known_at es k
known_there es a k p is = ap known_in (place_there es a k p is ∙ sym is)

pub known_else : (es : List (ℕ × Place)) (a : StartKeys) (k : ℕ) → place_at es k ≡ None → known_at (all_places es a) k ≡ known_at (started a) k
known_else es a k none = ap known_in (place_else es a k none)

-- only the map has room
pub room_both : (es : List (ℕ × Place)) (a : StartKeys) (k : ℕ) → room_at (all_places es a) k ≡ room_at es k
room_both es a k = ap room_in (place_both es (started a) k) ∙ by (place_at es k)
  where
    by : (o : Option Place) → room_in (over o (place_at (started a) k)) ≡ room_in o
    by None = start_no_room a k
    by (Some p) = refl

pub place_kept : (es fs : List (ℕ × Place)) (a b : StartKeys) (j : ℕ) → place_at fs j ≡ place_at es j → place_at (started b) j ≡ place_at (started a) j → place_at (all_places fs b) j ≡ place_at (all_places es a) j
place_kept es fs a b j one two = place_both fs (started b) j ∙ ap (λ (o : Option Place). over o (place_at (started b) j)) one ∙ ap (over (place_at es j)) two ∙ sym (place_both es (started a) j)

-- a key that has a record or room in the map is there
pub some_place : (o : Option Place) (r : KeyRecord) → known_in o ≡ Some r → (p : Place) × (o ≡ Some p)
some_place None r is = absurd (cc is)
some_place (Some p) r is = (p, refl)

pub room_place : (o : Option Place) → 0 < room_in o → (p : Place) × (o ≡ Some p)
room_place None lt = absurd (omega (arith, lt))
room_place (Some p) lt = (p, refl)

-- Changes of one part alone.

pub told_there : (es fs : List (ℕ × Place)) (a : StartKeys) (home : ℕ) (n : EntryName) → ToldAt es fs home n → ToldAt (all_places es a) (all_places fs a) home n
told_there es fs a home n is =
    let has = is.tells.waited.has in
    let old = some_place (place_at es n.key) is.tells.waited.found has in
    let was : known_at (all_places es a) n.key ≡ known_at es n.key = known_there es a n.key old.0 old.1 in
    let there = some_place (place_at fs n.key) (told_in n.version is.tells.waited.found) (is.tells.change.here ∙ ap (option_map (told_in n.version)) has) in
    let now : known_at (all_places fs a) n.key ≡ known_at fs n.key = known_there fs a n.key there.0 there.1 in
    let same : (j : ℕ) → j ≢ n.key → place_at (all_places fs a) j ≡ place_at (all_places es a) j = λ j ne. place_kept es fs a a j (is.others j ne) refl in
    record {
      tells = record {
        waited = subst (λ (o : Option KeyRecord). Awaits o home n.version) (sym was) is.tells.waited;
        change = record { here = now ∙ is.tells.change.here ∙ ap (option_map (told_in n.version)) (sym was); others = λ j ne. ap known_in (same j ne) };
        room = λ j. room_both fs a j ∙ is.tells.room j ∙ sym (room_both es a j);
      };
      others = same;
      waits = λ w h after. let both = is.waits w h (subst (λ (o : Option KeyRecord). Awaits o h w) now after) in (both.0, subst (λ (o : Option KeyRecord). Awaits o h w) (sym was) both.1);
      fewer = let x = untold_both fs (started a) in let y = untold_both es (started a) in let z = is.fewer in omega (arith, x, y, z);
    }

pub told_else : (es : List (ℕ × Place)) (a b : StartKeys) (home : ℕ) (n : EntryName) → place_at es n.key ≡ None → ToldAt (started a) (started b) home n → ToldAt (all_places es a) (all_places es b) home n
told_else es a b home n none is =
    let was : known_at (all_places es a) n.key ≡ known_at (started a) n.key = known_else es a n.key none in
    let now : known_at (all_places es b) n.key ≡ known_at (started b) n.key = known_else es b n.key none in
    let same : (j : ℕ) → j ≢ n.key → place_at (all_places es b) j ≡ place_at (all_places es a) j = λ j ne. place_kept es es a b j refl (is.others j ne) in
    record {
      tells = record {
        waited = subst (λ (o : Option KeyRecord). Awaits o home n.version) (sym was) is.tells.waited;
        change = record { here = now ∙ is.tells.change.here ∙ ap (option_map (told_in n.version)) (sym was); others = λ j ne. ap known_in (same j ne) };
        room = λ j. room_both es b j ∙ sym (room_both es a j);
      };
      others = same;
      waits = λ w h after. let both = is.waits w h (subst (λ (o : Option KeyRecord). Awaits o h w) now after) in (both.0, subst (λ (o : Option KeyRecord). Awaits o h w) (sym was) both.1);
      fewer = let x = untold_both es (started b) in let y = untold_both es (started a) in let z = is.fewer in omega (arith, x, y, z);
    }

pub changes_else : (es : List (ℕ × Place)) (a b : StartKeys) (k : ℕ) (now : Option KeyRecord) → place_at es k ≡ None → StartTurns a b k now → Changes (all_places es a) (all_places es b) k now
changes_else es a b k now none is = record {
  here = known_else es b k none ∙ is.here;
  others = λ j ne. ap known_in (place_kept es es a b j refl (is.others j ne));
}

pub room_else : (es : List (ℕ × Place)) (a b : StartKeys) → SameRoom (all_places es a) (all_places es b)
room_else es a b = λ j. room_both es b j ∙ sym (room_both es a j)

-- an entry that is gone from the map
pub gone_there : (es fs : List (ℕ × Place)) (a : StartKeys) (k v : ℕ) (p : Place) → place_at es k ≡ Some p → Step es fs k (option_map (gone_place v) (place_at es k)) → Changes (all_places es a) (all_places fs a) k (option_map (without v) (known_at (all_places es a) k))
gone_there es fs a k v p at is =
    let here : place_at fs k ≡ Some (gone_place v p) = is.here ∙ ap (option_map (gone_place v)) at in
    record {
      here = ap known_in (place_there fs a k (gone_place v p) here) ∙ ap (option_map (without v)) (sym (ap known_in (place_there es a k p at)));
      others = λ j ne. ap known_in (place_kept es fs a a j (is.others j ne) refl);
    }

pub gone_room : (es fs : List (ℕ × Place)) (a : StartKeys) (k v : ℕ) → Step es fs k (option_map (gone_place v) (place_at es k)) → SameRoom (all_places es a) (all_places fs a)
gone_room es fs a k v is = λ j. room_both fs a j ∙ ⊎_elim (λ (e : j ≡ k). ap (room_at fs) e ∙ ap room_in is.here ∙ same (place_at es k) ∙ ap (room_at es) (sym e)) (λ (ne : j ≢ k). ap room_in (is.others j ne)) (cases_eq j k) ∙ sym (room_both es a j)
  where
    same : (o : Option Place) → room_in (option_map (gone_place v) o) ≡ room_in o
    same None = refl
    same (Some p) = refl

-- How many entries are to be told.

-- by the record
untold_known : (o : Option Place) → untold_of o ≡ untold_by (known_in o)
untold_known None = refl
untold_known (Some p) = refl

-- of a change that is settled there is one more
pub settled_untold : (es fs : List (ℕ × Place)) (a : StartKeys) (k v home n : ℕ) (body : Body) → Step es fs k (Some (record { known = Some (settled (known_at es k) v body home); room = n })) → all_untold (all_places fs a) ≡ all_untold (all_places es a) + 1
settled_untold es fs a k v home n body step =
    let sum = step.untold in
    let was = untold_known (place_at es k) in
    let now = by (known_at es k) in
    let x = untold_both fs (started a) in
    let y = untold_both es (started a) in
    omega (arith, sum, was, now, x, y)
  where
    by : (o : Option KeyRecord) → untold_by (Some (settled o v body home)) ≡ untold_by o + 1
    by None = refl
    by (Some r) = count_added r.standing v home

-- of an entry that is gone there is no more
gone_fewer : (o : Option Place) (v : ℕ) → untold_of (option_map (gone_place v) o) ≤ untold_of o
gone_fewer None v = omega arith
gone_fewer (Some p) v = by p.known
  where
    by : (r : Option KeyRecord) → untold_by (option_map (without v) r) ≤ untold_by r
    by None = omega arith
    by (Some r) = fewer_others r.standing v

pub gone_untold : (es fs : List (ℕ × Place)) (a : StartKeys) (k v : ℕ) → Step es fs k (option_map (gone_place v) (place_at es k)) → all_untold (all_places fs a) ≤ all_untold (all_places es a)
gone_untold es fs a k v step =
    let sum = step.untold in
    let less = gone_fewer (place_at es k) v in
    let x = untold_both fs (started a) in
    let y = untold_both es (started a) in
    omega (arith, sum, less, x, y)

-- what both parts have less, both have together
pub untold_less : (es fs : List (ℕ × Place)) (a b : StartKeys) → all_untold fs ≤ all_untold es → all_untold (started b) ≤ all_untold (started a) → all_untold (all_places fs b) ≤ all_untold (all_places es a)
untold_less es fs a b one two =
    let x = untold_both fs (started b) in
    let y = untold_both es (started a) in
    omega (arith, one, two, x, y)

-- A record that is taken out of both parts.

none_over : (o q : Option Place) → known_in o ≡ None → known_in q ≡ None → known_in (over o q) ≡ None
none_over None q one two = two
none_over (Some p) q one two = one

pub forgotten : (es fs : List (ℕ × Place)) (a b : StartKeys) (k : ℕ) → known_at fs k ≡ None → ((j : ℕ) → j ≢ k → place_at fs j ≡ place_at es j) → StartTurns a b k None → Changes (all_places es a) (all_places fs b) k None
forgotten es fs a b k none others turns = record {
  here = ap known_in (place_both fs (started b) k) ∙ none_over (place_at fs k) (place_at (started b) k) none turns.here;
  others = λ j ne. ap known_in (place_kept es fs a b j (others j ne) (turns.others j ne));
}

pub forgotten_room : (es fs : List (ℕ × Place)) (a b : StartKeys) → SameRoom es fs → SameRoom (all_places es a) (all_places fs b)
forgotten_room es fs a b same = λ j. room_both fs b j ∙ same j ∙ sym (room_both es a j)

-- Room for one more change.

pub grown : (o : Option Place) → mortal_in (Some (record { known = known_in o; room = room_in o + 1 })) ≡ mortal_in o + NAMES_OF_CHANGE
grown None = omega arith
grown (Some p) = omega arith

pub admits_there : (es fs : List (ℕ × Place)) (a : StartKeys) (k : ℕ) → known_at (all_places es a) k ≡ known_at es k → Step es fs k (Some (record { known = known_at es k; room = room_at es k + 1 })) → Admits es fs a a k
admits_there es fs a k same step = record {
  here = step.here ∙ ap (λ (o : Option KeyRecord). Some (record { known = o; room = room_at es k + 1 })) (sym same);
  others = step.others;
  others_left = λ j ne. refl;
  ahead = λ home n ahead. ahead;
  count = let sum = step.count in let more = grown (place_at es k) in omega (arith, sum, more);
  untold =
      let sum = step.untold in
      let was = untold_known (place_at es k) in
      let x = untold_both fs (started a) in
      let y = untold_both es (started a) in
      omega (arith, sum, was, x, y);
}

pub admits_moved : (es fs : List (ℕ × Place)) (a b : StartKeys) (k : ℕ) (p : Place) → place_at es k ≡ None → p ≡ record { known = known_at (started a) k; room = 1 } → Step es fs k (Some p) → StartTurns a b k None → all_untold (started b) + untold_by (known_at (started a) k) ≤ all_untold (started a) → Admits es fs a b k
admits_moved es fs a b k p none is step turns fewer =
    let known : known_at (all_places es a) k ≡ known_at (started a) k = known_else es a k none in
    let room : room_at es k + 1 ≡ 1 = ap (λ (o : Option Place). room_in o + 1) none in
    record {
      here = step.here ∙ ap (λ (q : Place). Some q) is ∙ (λ i. Some (record { known = sym known i; room = sym room i }));
      others = step.others;
      others_left = turns.others;
      ahead = turns.ahead;
      count =
          let sum = step.count in
          let old : mortal_in (place_at es k) ≡ 0 = ap mortal_in none in
          let new : mortal_in (Some p) ≡ NAMES_OF_CHANGE * 1 + lone_deaths (known_at (started a) k) = ap mortal is in
          omega (arith, sum, old, new);
      untold =
          let sum = step.untold in
          let old : untold_of (place_at es k) ≡ 0 = ap untold_of none in
          let new : untold_of (Some p) ≡ untold_by (known_at (started a) k) = ap (λ (q : Place). untold_by q.known) is in
          let x = untold_both fs (started b) in
          let y = untold_both es (started a) in
          omega (arith, sum, old, new, fewer, x, y);
    }

pub forgets_none : (es : List (ℕ × Place)) (k : ℕ) → place_at es k ≡ None → Forgets es es k
forgets_none es k none = record { here = ap known_in none; others = λ j ne. refl; room = λ j. refl; count = omega arith; untold = omega arith }

pub forgettable_there : (es : List (ℕ × Place)) (a : StartKeys) (k : ℕ) → IsTrue (is_forgettable (known_at (all_places es a) k)) → is_some (place_at es k) ≡ true → IsTrue (is_forgettable (known_at es k))
forgettable_there es a k is some = let there = some_of (place_at es k) some in subst (λ (o : Option KeyRecord). IsTrue (is_forgettable o)) (known_there es a k there.0 there.1) is

-- Who dies by an entry that is gone from one part.

pub only_or : (a : StartKeys) (k : ℕ) (old new : Option KeyRecord) (dead : Option Standee) → OnlyDead old new dead → DeadOrAhead a k old new dead
only_or a k old new dead only v home waits = ⊎_elim (λ (was : Awaits old home v). inl was) (λ (died : dead ≡ Some (standee_with v home)). inr (inl died)) (only v home waits)

pub only_there : (es fs : List (ℕ × Place)) (a : StartKeys) (k v : ℕ) (p : Place) (dead : Option Standee) → place_at es k ≡ Some p → Step es fs k (option_map (gone_place v) (place_at es k)) → OnlyDead (known_at es k) (known_at fs k) dead → DeadOrAhead a k (known_at (all_places es a) k) (known_at (all_places fs a) k) dead
only_there es fs a k v p dead at step only = only_or a k (known_at (all_places es a) k) (known_at (all_places fs a) k) dead (λ w home after.
    let here : place_at fs k ≡ Some (gone_place v p) = step.here ∙ ap (option_map (gone_place v)) at in
    let was = known_there es a k p at in
    let now = known_there fs a k (gone_place v p) here in
    ⊎_elim (λ (waits : Awaits (known_at es k) home w). inl (subst (λ (o : Option KeyRecord). Awaits o home w) (sym was) waits)) (λ (died : dead ≡ Some (standee_with w home)). inr died) (only w home (subst (λ (o : Option KeyRecord). Awaits o home w) now after)))

pub only_else : (es : List (ℕ × Place)) (a b : StartKeys) (k : ℕ) (dead : Option Standee) → place_at es k ≡ None → ((home v : ℕ) → Awaits (known_at (started b) k) home v → Awaits (known_at (started a) k) home v ⊎ IsAhead b home (name_with k v)) → DeadOrAhead b k (known_at (all_places es a) k) (known_at (all_places es b) k) dead
only_else es a b k dead none kept = λ w home after. ⊎_elim
    (λ (was : Awaits (known_at (started a) k) home w). inl (subst (λ (o : Option KeyRecord). Awaits o home w) (sym (known_else es a k none)) was))
    (λ (far : IsAhead b home (name_with k w)). inr (inr far))
    (kept home w (subst (λ (o : Option KeyRecord). Awaits o home w) (known_else es b k none) after))

-- what fits into the list of deleted keys
pub all_fit : (r : Option Tombstone) (es : List (ℕ × Place)) (a : StartKeys) (k v : ℕ) (known : KeyRecord) → place_at es k ≡ None → AllLess a.lone.live.items k → AreLess a.lone.deleted.items k → AreLess a.older.items k → IfSome r (λ t. key_of t ≡ k) → IfSome r (λ t. tomb_home t < 16) → IfSome r (λ t. left_of t ≡ Some known) → IfSome r (λ t. tomb_version t ≡ v) → IfSome r (IsCompact es a k v known)
all_fit None es a k v known new apart above older key home left version = tt
all_fit (Some t) es a k v known new apart above older key home left version = record {
  new = new;
  apart = live_found a.lone k None (sym (less_absent a.lone.live.items k apart));
  above = above;
  above_older = older;
  key = key;
  home = home;
  version = version;
  left = left;
}

-- Room that is given back.

pub gives_known : (es fs : List (ℕ × Place)) (a b : StartKeys) (k : ℕ) → 0 < room_at es k → GivesBack es fs k → StartTurns a b k None → (j : ℕ) → known_at (all_places fs b) j ≡ known_at (all_places es a) j
gives_known es fs a b k some gives turns j = ⊎_elim
    (λ (e : j ≡ k). ap (known_at (all_places fs b)) e ∙ here ∙ ap (known_at (all_places es a)) (sym e))
    (λ (ne : j ≢ k). ap known_in (place_kept es fs a b j (gives.others j ne) (turns.others j ne)))
    (cases_eq j k)
  where
    there : (p : Place) × (place_at es k ≡ Some p)
    there = room_place (place_at es k) some

    over_known : (o q : Option Place) → known_in q ≡ None → known_in (over o q) ≡ known_in o
    over_known None q none = none
    over_known (Some p) q none = refl

    here : known_at (all_places fs b) k ≡ known_at (all_places es a) k
    here = ap known_in (place_both fs (started b) k) ∙ over_known (place_at fs k) (place_at (started b) k) turns.here ∙ gives.here ∙ sym (known_there es a k there.0 there.1)

pub gives_room : (es fs : List (ℕ × Place)) (a b : StartKeys) (k : ℕ) → GivesBack es fs k → room_at (all_places fs b) k ≡ room_at (all_places es a) k - 1
gives_room es fs a b k gives =
    let now = room_both fs b k in
    let before = room_both es a k in
    let one = gives.room in
    omega (arith, now, before, one)

pub gives_others : (es fs : List (ℕ × Place)) (a b : StartKeys) (k : ℕ) → GivesBack es fs k → (j : ℕ) → j ≢ k → room_at (all_places fs b) j ≡ room_at (all_places es a) j
gives_others es fs a b k gives j ne = room_both fs b j ∙ ap room_in (gives.others j ne) ∙ sym (room_both es a j)
