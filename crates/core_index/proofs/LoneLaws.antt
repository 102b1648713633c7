-- Keys with a value before those that were deleted.
use Rattle.std.proofs.Common.{◌≡◌, ℕ, ◌+◌, ◌≤◌, arith, ◌==◌, nat_lt, Bool, true, false, cond, ◌&&◌, ◌||◌, List, [], ◌∷◌, Option, Some, None, option_map, refl, sym, ◌∙◌, ap, subst}
use Rattle.std.specs.Prelude.{is_some}
use Rattle.std.proofs.lemmas.Bool.{eqb-true, eq-eqb, cond-false}
use Rattle.log_entry.specs.declared.entry.EntryName.{EntryName}
use Rattle.core_index.specs.declared.lone_keys.LoneKeys.{LoneKeys}
use Rattle.core_index.specs.declared.types.ValuePlace.{ValuePlace}
use Rattle.core_index.specs.declared.types.LiveFate.{LiveFate}
use Rattle.core_index.specs.declared.types.LiveFate.TheVariants.{Stands, Gone, Moved}
use Rattle.core_index.specs.declared.types.LiveKey.{LiveKey}
use Rattle.core_index.specs.declared.types.StandingEntry.{StandingEntry}
use Rattle.core_index.specs.declared.types.Tombstone.{Tombstone}
use Rattle.core_index.specs.declared.types.Fate.{Fate}
use Rattle.core_index.specs.declared.types.Fate.TheVariants as fates
use Rattle.core_index.proofs.DeadLaws.{alive_none}
use Rattle.core_index.specs.Records.{KeyRecord, Awaits, is_tombstone, is_dead, is_dead_in, is_empty, is_forgettable, stands_alone, standing_at, standing_with, without}
use Rattle.core_index.specs.Slots.{Place, count_of, alive_at, lone_deaths}
use Rattle.core_index.specs.Tombs.{tomb_version, tomb_home, Tombs, tomb_places, place_of, found_at, left_by, deleted}
use Rattle.core_index.specs.Lives.{entry_version, entry_home, Lives, body_in, valued, valued_by, live_place, live_at, placed_lives}
use Rattle.core_index.specs.Lones.{lones, LoneAhead}
use Rattle.core_index.specs.Index.{place_at, known_in, room_in, known_at, room_at, over, untold_of, untold_by, all_untold, gone_place, cleared, TurnsAt, Turns, LoneTurns}
use Rattle.core_index.proofs.OverLaws.{place_both, first_place, both_kept, untold_both}
use Rattle.core_index.proofs.LiveLaws.{placed_found, not_dead, no_tombstone}
use Rattle.core_index.proofs.TombLaws.{no_room, none_waits, placed_found as tomb_found}

pub live_found : (a : LoneKeys) (k : ℕ) (o : Option LiveKey) → o ≡ live_at a.live.items k → place_at (placed_lives a.live) k ≡ option_map (live_place a.live.bytes) o
live_found a k o is = placed_found a.live.bytes a.live.items k ∙ ap (option_map (live_place a.live.bytes)) (sym is)

pub place_live : (a : LoneKeys) (k : ℕ) (x : LiveKey) → Some x ≡ live_at a.live.items k → place_at (lones a) k ≡ Some (live_place a.live.bytes x)
place_live a k x is = first_place (placed_lives a.live) (tomb_places a.deleted.items) k (Some (live_place a.live.bytes x)) (live_found a k (Some x) is)

pub place_deleted : (a : LoneKeys) (k : ℕ) → None ≡ live_at a.live.items k → place_at (lones a) k ≡ place_at (tomb_places a.deleted.items) k
place_deleted a k is = first_place (placed_lives a.live) (tomb_places a.deleted.items) k None (live_found a k None is)

pub known_live : (a : LoneKeys) (k : ℕ) (x : LiveKey) → Some x ≡ live_at a.live.items k → known_at (lones a) k ≡ valued a.live.bytes x
known_live a k x is = ap known_in (place_live a k x is)

pub known_deleted : (a : LoneKeys) (k : ℕ) → None ≡ live_at a.live.items k → known_at (lones a) k ≡ known_at (tomb_places a.deleted.items) k
known_deleted a k is = ap known_in (place_deleted a k is)

pub lone_no_room : (a : LoneKeys) (k : ℕ) → room_at (lones a) k ≡ 0
lone_no_room a k = ap room_in (place_both (placed_lives a.live) (tomb_places a.deleted.items) k ∙ ap (λ (o : Option Place). over o (place_at (tomb_places a.deleted.items) k)) (placed_found a.live.bytes a.live.items k)) ∙ by (live_at a.live.items k)
  where
    by : (o : Option LiveKey) → room_in (over (option_map (live_place a.live.bytes) o) (place_at (tomb_places a.deleted.items) k)) ≡ 0
    by None = no_room a.deleted.items k
    by (Some x) = refl

pub never_forgettable : (bytes : List ℕ) (h : ValuePlace) (f : LiveFate) (v home : ℕ) → is_forgettable (valued_by f v home (body_in bytes h)) ≡ false
never_forgettable bytes h Stands v home = ap (λ (b : Bool). b && is_empty (standing_with v home false ∷ [])) (no_tombstone bytes h)
never_forgettable bytes h Gone v home = ap (λ (b : Bool). b && is_empty []) (no_tombstone bytes h)
never_forgettable bytes h Moved v home = refl

-- no entry of a key with a value is dead
pub value_waits : (bytes : List ℕ) (h : ValuePlace) (f : LiveFate) (v own home w : ℕ) → Awaits (valued_by f v own (body_in bytes h)) home w → ⊥
value_waits bytes h Stands v own home w waits =
    let e : record { version = v; body = body_in bytes h; standing = standing_with v own false ∷ [] } ≡ waits.found = let has = waits.has in cc has in
    let stands = ap (λ (r : KeyRecord). standing_at r.standing w) e ∙ waits.stands in
    let dead = ap (λ (r : KeyRecord). is_dead r w) e ∙ waits.dead in
    by (v == w) refl stands dead
  where
    by : (b : Bool) → (v == w) ≡ b → cond b (Some (standing_with v own false)) None ≡ Some (standing_with w home false) → is_dead (record { version = v; body = body_in bytes h; standing = standing_with v own false ∷ [] }) w ≡ true → ⊥
    by true same at dead =
        let no = not_dead bytes h v (standing_with v own false ∷ []) in
        let now = ap (λ (u : ℕ). is_dead (record { version = v; body = body_in bytes h; standing = standing_with v own false ∷ [] }) u) (eqb-true v w same) ∙ dead in
        cc (no, now)
    by false same at dead = cc at
value_waits bytes h Gone v own home w waits =
    let e : record { version = v; body = body_in bytes h; standing = [] } ≡ waits.found = let has = waits.has in cc has in
    let stands = ap (λ (r : KeyRecord). standing_at r.standing w) e ∙ waits.stands in
    cc stands
value_waits bytes h Moved v own home w waits = none_waits home w waits

pub live_waits : (a : Lives) (k home w : ℕ) → Awaits (known_at (placed_lives a) k) home w → ⊥
live_waits a k home w waits = by (live_at a.items k) (subst (λ (o : Option Place). Awaits (known_in o) home w) (placed_found a.bytes a.items k) waits)
  where
    by : (o : Option LiveKey) → Awaits (known_in (option_map (live_place a.bytes) o)) home w → ⊥
    by None waits = none_waits home w waits
    by (Some x) waits = value_waits a.bytes x.held x.fate (entry_version x) (entry_home x) home w waits

abbrev pub StaysAhead : LoneKeys → LoneKeys → Type 0
StaysAhead a b = (home : ℕ) (n : EntryName) → LoneAhead a home n → LoneAhead b home n

-- an entry that is gone
pub gone_live : (a b : LoneKeys) (k w : ℕ) (x : LiveKey) → Some x ≡ live_at a.live.items k → TurnsAt (placed_lives a.live) (placed_lives b.live) k (option_map (gone_place w) (place_at (placed_lives a.live) k)) → b.deleted ≡ a.deleted → LoneTurns a b k (option_map (without w) (known_at (lones a) k))
gone_live a b k w x is turns same =
    let now : place_at (placed_lives b.live) k ≡ Some (gone_place w (live_place a.live.bytes x)) = turns.here ∙ ap (option_map (gone_place w)) (live_found a k (Some x) is) in
    record {
      here = ap known_in (first_place (placed_lives b.live) (tomb_places b.deleted.items) k (Some (gone_place w (live_place a.live.bytes x))) now) ∙ ap (option_map (without w)) (sym (known_live a k x is));
      others = λ j ne. both_kept (placed_lives a.live) (placed_lives b.live) (tomb_places a.deleted.items) (tomb_places b.deleted.items) j (turns.others j ne) (ap (λ (d : Tombs). place_at (tomb_places d.items) j) same);
      ahead = λ home n ahead. subst (λ (d : Tombs). LoneAhead (record { live = b.live; deleted = d }) home n) (sym same) ahead;
    }

pub gone_live_waits : (a b : LoneKeys) (k w home v : ℕ) (x : LiveKey) → Some x ≡ live_at a.live.items k → TurnsAt (placed_lives a.live) (placed_lives b.live) k (option_map (gone_place w) (place_at (placed_lives a.live) k)) → Awaits (known_at (lones b) k) home v → ⊥
gone_live_waits a b k w home v x is turns waits =
    let now : place_at (placed_lives b.live) k ≡ Some (gone_place w (live_place a.live.bytes x)) = turns.here ∙ ap (option_map (gone_place w)) (live_found a k (Some x) is) in
    let first : known_at (lones b) k ≡ known_at (placed_lives b.live) k = ap known_in (first_place (placed_lives b.live) (tomb_places b.deleted.items) k (Some (gone_place w (live_place a.live.bytes x))) now ∙ sym now) in
    live_waits b.live k home v (subst (λ (o : Option KeyRecord). Awaits o home v) first waits)

pub gone_deleted : (a b : LoneKeys) (k : ℕ) (now : Option KeyRecord) → None ≡ live_at a.live.items k → b.live ≡ a.live → Turns a.deleted b.deleted k now → LoneTurns a b k now
gone_deleted a b k now is same turns = record {
  here = known_deleted b k (is ∙ ap (λ (l : Lives). live_at l.items k) (sym same)) ∙ turns.here;
  others = λ j ne. both_kept (placed_lives a.live) (placed_lives b.live) (tomb_places a.deleted.items) (tomb_places b.deleted.items) j (ap (λ (l : Lives). place_at (placed_lives l) j) same) (turns.others j ne);
  ahead = turns.ahead;
}

-- a record that is taken out of both
pub lone_cleared : (a b : LoneKeys) (k : ℕ) → TurnsAt (placed_lives a.live) (placed_lives b.live) k (option_map cleared (place_at (placed_lives a.live) k)) → Turns a.deleted b.deleted k None → LoneTurns a b k None
lone_cleared a b k live deleted = record {
  here = ap known_in (first_place (placed_lives b.live) (tomb_places b.deleted.items) k (option_map cleared (place_at (placed_lives a.live) k)) live.here) ∙ by (place_at (placed_lives a.live) k);
  others = λ j ne. both_kept (placed_lives a.live) (placed_lives b.live) (tomb_places a.deleted.items) (tomb_places b.deleted.items) j (live.others j ne) (deleted.others j ne);
  ahead = deleted.ahead;
}
  where
    by : (o : Option Place) → known_in (over (option_map cleared o) (place_at (tomb_places b.deleted.items) k)) ≡ None
    by None = deleted.here
    by (Some p) = refl

-- No entry of these keys dies before a change of its key: that of a delete is dead, and that of a value only dies by a change.

pub dead_now : (v : ℕ) (ss : List StandingEntry) → stands_alone ss v ≡ true → is_dead (deleted v ss) v ≡ true
dead_now v ss alone = ap (λ (b : Bool). nat_lt v v || ((v == v) && b)) alone ∙ ap (λ (b : Bool). nat_lt v v || (b && true)) (eq-eqb v v refl) ∙ by (nat_lt v v)
  where
    by : (b : Bool) → (b || (true && true)) ≡ true
    by true = refl
    by false = refl

left_calm : (f : Fate) (v home : ℕ) → lone_deaths (left_by f v home) ≡ 0
left_calm fates.Untold v home = ap count_of (alive_none (deleted v (standing_with v home false ∷ [])) (dead_now v (standing_with v home false ∷ []) (ap (λ (b : Bool). b && true) (eq-eqb v v refl))))
left_calm fates.Told v home = ap count_of (alive_none (deleted v (standing_with v home true ∷ [])) (dead_now v (standing_with v home true ∷ []) (ap (λ (b : Bool). b && true) (eq-eqb v v refl))))
left_calm fates.Gone v home = ap count_of (alive_none (deleted v []) (dead_now v [] refl))
left_calm fates.Moved v home = refl

deleted_calm : (ts : List Tombstone) (k : ℕ) → lone_deaths (known_at (tomb_places ts) k) ≡ 0
deleted_calm ts k = ap (λ (o : Option Place). lone_deaths (known_in o)) (tomb_found ts k) ∙ by (found_at ts k)
  where
    by : (o : Option Tombstone) → lone_deaths (known_in (option_map place_of o)) ≡ 0
    by None = refl
    by (Some t) = left_calm t.fate (tomb_version t) (tomb_home t)

value_calm : (bytes : List ℕ) (h : ValuePlace) (f : LiveFate) (v home : ℕ) → lone_deaths (valued_by f v home (body_in bytes h)) ≡ 0
value_calm bytes h Stands v home = cond-false (is_tombstone (body_in bytes h)) (count_of (alive_at (valued_by Stands v home (body_in bytes h)))) 0 (no_tombstone bytes h)
value_calm bytes h Gone v home = cond-false (is_tombstone (body_in bytes h)) (count_of (alive_at (valued_by Gone v home (body_in bytes h)))) 0 (no_tombstone bytes h)
value_calm bytes h Moved v home = refl

pub lone_calm : (a : LoneKeys) (k : ℕ) → lone_deaths (known_at (lones a) k) ≡ 0
lone_calm a k = ap (λ (o : Option Place). lone_deaths (known_in o)) (place_both (placed_lives a.live) (tomb_places a.deleted.items) k ∙ ap (λ (o : Option Place). over o (place_at (tomb_places a.deleted.items) k)) (placed_found a.live.bytes a.live.items k)) ∙ by (live_at a.live.items k)
  where
    by : (o : Option LiveKey) → lone_deaths (known_in (over (option_map (live_place a.live.bytes) o) (place_at (tomb_places a.deleted.items) k))) ≡ 0
    by None = deleted_calm a.deleted.items k
    by (Some x) = value_calm a.live.bytes x.held x.fate (entry_version x) (entry_home x)

-- a key with a value that is added
pub added_live : (a : LoneKeys) (l : Lives) (k : ℕ) (p : Place) → TurnsAt (placed_lives a.live) (placed_lives l) k (Some p) → TurnsAt (lones a) (lones (record { live = l; deleted = a.deleted })) k (Some p)
added_live a l k p turns = record {
  here = first_place (placed_lives l) (tomb_places a.deleted.items) k (Some p) turns.here;
  others = λ j ne. both_kept (placed_lives a.live) (placed_lives l) (tomb_places a.deleted.items) (tomb_places a.deleted.items) j (turns.others j ne) refl;
}

pub never_dead : (bytes : List ℕ) (h : ValuePlace) (f : LiveFate) (v home w : ℕ) → is_dead_in (valued_by f v home (body_in bytes h)) w ≡ false
never_dead bytes h Stands v home w = by (v == w) refl
  where
    by : (b : Bool) → (v == w) ≡ b → is_some (cond b (Some (standing_with v home false)) None) && is_dead (record { version = v; body = body_in bytes h; standing = standing_with v home false ∷ [] }) w ≡ false
    by true same = ap (λ (u : ℕ). is_dead (record { version = v; body = body_in bytes h; standing = standing_with v home false ∷ [] }) u) (sym (eqb-true v w same)) ∙ not_dead bytes h v (standing_with v home false ∷ [])
    by false same = refl
never_dead bytes h Gone v home w = refl
never_dead bytes h Moved v home w = refl

abbrev pub with_tombs : LoneKeys → Tombs → LoneKeys
with_tombs a d = record { live = a.live; deleted = d }

-- How many entries are to be told, of both lists.

pub lone_less : (a b : LoneKeys) → all_untold (placed_lives b.live) ≤ all_untold (placed_lives a.live) → all_untold (tomb_places b.deleted.items) ≤ all_untold (tomb_places a.deleted.items) → all_untold (lones b) ≤ all_untold (lones a)
lone_less a b one two =
    let x = untold_both (placed_lives b.live) (tomb_places b.deleted.items) in
    let y = untold_both (placed_lives a.live) (tomb_places a.deleted.items) in
    omega (arith, one, two, x, y)

over_untold : (o q : Option Place) → untold_by (known_in (over o q)) ≤ untold_of o + untold_of q
over_untold None None = omega arith
over_untold None (Some q) = omega arith
over_untold (Some p) q = omega arith

pub lone_fewer : (a b : LoneKeys) (k : ℕ) → all_untold (placed_lives b.live) + untold_of (place_at (placed_lives a.live) k) ≡ all_untold (placed_lives a.live) → all_untold (tomb_places b.deleted.items) + untold_of (place_at (tomb_places a.deleted.items) k) ≡ all_untold (tomb_places a.deleted.items) → all_untold (lones b) + untold_by (known_at (lones a) k) ≤ all_untold (lones a)
lone_fewer a b k one two =
    let x = untold_both (placed_lives b.live) (tomb_places b.deleted.items) in
    let y = untold_both (placed_lives a.live) (tomb_places a.deleted.items) in
    let at = ap (λ (o : Option Place). untold_by (known_in o)) (place_both (placed_lives a.live) (tomb_places a.deleted.items) k) in
    let few = over_untold (place_at (placed_lives a.live) k) (place_at (tomb_places a.deleted.items) k) in
    omega (arith, one, two, x, y, at, few)

-- no entry is dead where the list of deleted keys has none
pub none_dead : (a : LoneKeys) (k w : ℕ) → is_dead_in (known_at (tomb_places a.deleted.items) k) w ≡ false → is_dead_in (known_at (lones a) k) w ≡ false
none_dead a k w none = by (live_at a.live.items k) refl
  where
    by : (o : Option LiveKey) → o ≡ live_at a.live.items k → is_dead_in (known_at (lones a) k) w ≡ false
    by None is = ap (λ (r : Option KeyRecord). is_dead_in r w) (known_deleted a k is) ∙ none
    by (Some x) is = ap (λ (r : Option KeyRecord). is_dead_in r w) (known_live a k x is) ∙ never_dead a.live.bytes x.held x.fate (entry_version x) (entry_home x) w
