-- The keys of the start by both lists: that of last versions, and that of older entries.
use Rattle.std.proofs.Common.{◌≡◌, ◌≢◌, ◌⊎◌, inl, inr, ⊎_elim, ℕ, ◌+◌, ◌<◌, ◌≤◌, ◌==◌, nat_lt, Bool, true, false, cond, ◌&&◌, List, [], ◌∷◌, ◌++◌, length, Option, Some, None, option_map, refl, sym, ◌∙◌, ap, subst, arith}
use Rattle.std.specs.Prelude.{is_some, IfSome, IfNone}
use Rattle.std.proofs.lemmas.Bool.{eq-eqb, lt-ltb, cond-true, cond-false, cases_eq}
use Rattle.log_entry.specs.declared.entry.EntryName.{EntryName}
use Rattle.core_index.specs.declared.start_keys.StartKeys.{StartKeys}
use Rattle.core_index.specs.declared.lone_keys.LoneKeys.{LoneKeys}
use Rattle.core_index.specs.declared.types.Fate.{Fate}
use Rattle.core_index.specs.declared.types.Fate.TheVariants as fates
use Rattle.core_index.specs.declared.types.LiveFate.{LiveFate}
use Rattle.core_index.specs.declared.types.LiveFate.TheVariants as live_fates
use Rattle.core_index.specs.declared.types.LiveKey.{LiveKey}
use Rattle.core_index.specs.declared.types.Look.{Look}
use Rattle.core_index.specs.declared.types.Look.TheVariants as looks
use Rattle.core_index.specs.declared.types.StandingEntry.{StandingEntry}
use Rattle.core_index.specs.declared.types.Tombstone.{Tombstone}
use Rattle.log_entry.specs.declared.entry.Body.{Body}
use Rattle.log_entry.specs.declared.entry.Body.TheVariants as bodies
use Rattle.core_index.specs.Records.{KeyRecord, Awaits, Shows, ShowsBody, is_tombstone, is_dead_in, is_forgettable, last_of, list_of, standing_with, told_in, with_told, without}
use Rattle.core_index.specs.Slots.{Place, count_of, home_alive, lone_deaths}
use Rattle.core_index.specs.Noted.{name_with}
use Rattle.core_index.specs.Lives.{live_key, entry_version, entry_home, body_in, valued_by, live_place, live_at, placed_lives}
use Rattle.core_index.specs.Tombs.{Tombs, Ahead, AreLess, passed_at, name_of, key_of, tomb_version, tomb_home, left_of, left_by, deleted, standing_by, standing_left, place_of, tomb_places, found_at, fated, with_fate, Rising}
use Rattle.core_index.specs.Lones.{lones, LoneAhead}
use Rattle.core_index.specs.Starts.{started, is_older, joined, OfLast, beside, twin_place, twin_at, twins, IsTwin, IsLone, IsAhead}
use Rattle.core_index.specs.Index.{place_at, known_in, room_in, known_at, room_at, over, untold_of, untold_by, all_untold, ToldAt, TurnsAt, LoneTurns, StartTurns, LoneAdded, OlderAdded, Stays}
use Rattle.core_index.proofs.OverLaws.{place_both, first_place, both_kept, untold_both}
use Rattle.core_index.proofs.TombLaws.{found_key, less_missing, more_here, more_other, more_ahead, own_ahead, with_more, none_waits, fated_here, fated_other, fated_ahead, rising_fated, waits_own, placed_found as tomb_found}
use Rattle.core_index.proofs.LoneLaws.{lone_no_room, lone_calm, dead_now, value_waits}
use Rattle.core_index.proofs.LiveLaws.{placed_found}
use Rattle.core_index.proofs.TwinLaws.{Twin, skip, hits, over_none, twins_missing, twins_at, twins_keep, twins_room, twins_kept, twins_same, twins_fewer, twins_cleared, twins_told, twins_gone, twin_parts, twin_known, twin_dead, twin_waits, older_waits, without_older, without_last, no_more_without, NoMore}

-- what an older entry leaves of a record
pub start_keeps : (P : Option KeyRecord → Type 0) (a : StartKeys) (k : ℕ) → ((t : Tombstone) (o : Option KeyRecord) → P o → P (beside t o)) → P (known_at (lones a.lone) k) → P (known_at (started a) k)
start_keeps P a k keeps is = subst (λ (o : Option Place). P (known_in o)) (sym (place_both (twins a.older.items (lones a.lone)) (lones a.lone) k)) (twins_keep P a.older.items (lones a.lone) k keeps is)

last_keeps : (v : ℕ) (t : Tombstone) (o : Option KeyRecord) → v ≡ last_of o → v ≡ last_of (beside t o)
last_keeps v t None is = is
last_keeps v t (Some r) is = is

pub start_last : (a : StartKeys) (k v : ℕ) → v ≡ last_of (known_at (lones a.lone) k) → v ≡ last_of (known_at (started a) k)
start_last a k v is = start_keeps (λ (o : Option KeyRecord). v ≡ last_of o) a k (last_keeps v) is

look_keeps : (l : Look) (t : Tombstone) (o : Option KeyRecord) → Shows o l → Shows (beside t o) l
look_keeps l t None is = is
look_keeps l t (Some r) is = is

pub start_look : (a : StartKeys) (k : ℕ) (l : Look) → Shows (known_at (lones a.lone) k) l → Shows (known_at (started a) k) l
start_look a k l is = start_keeps (λ (o : Option KeyRecord). Shows o l) a k (look_keeps l) is

pub start_no_room : (a : StartKeys) (k : ℕ) → room_at (started a) k ≡ 0
start_no_room a k = ap room_in (place_both (twins a.older.items (lones a.lone)) (lones a.lone) k) ∙ twins_room a.older.items (lones a.lone) k (place_at (lones a.lone) k) (lone_no_room a.lone k)

-- Only the entry of the last version stands in the first list.

valued_last : (f : LiveFate) (v home : ℕ) (b : Body) → OfLast (valued_by f v home b)
valued_last live_fates.Stands v home b = ((refl, tt), omega arith)
valued_last live_fates.Gone v home b = (tt, omega arith)
valued_last live_fates.Moved v home b = tt

left_last : (f : Fate) (v home : ℕ) → OfLast (left_by f v home)
left_last fates.Untold v home = ((refl, tt), omega arith)
left_last fates.Told v home = ((refl, tt), omega arith)
left_last fates.Gone v home = (tt, omega arith)
left_last fates.Moved v home = tt

pub lone_last : (a : LoneKeys) (k : ℕ) → OfLast (known_at (lones a) k)
lone_last a k = subst (λ (o : Option Place). OfLast (known_in o)) (sym (place_both (placed_lives a.live) (tomb_places a.deleted.items) k ∙ ap (λ (o : Option Place). over o (place_at (tomb_places a.deleted.items) k)) (placed_found a.live.bytes a.live.items k) ∙ ap (over (option_map (live_place a.live.bytes) (live_at a.live.items k))) (tomb_found a.deleted.items k))) (by (live_at a.live.items k) (found_at a.deleted.items k))
  where
    by : (o : Option LiveKey) (q : Option Tombstone) → OfLast (known_in (over (option_map (live_place a.live.bytes) o) (option_map place_of q)))
    by None None = tt
    by None (Some t) = left_last t.fate (tomb_version t) (tomb_home t)
    by (Some x) q = valued_last x.fate (entry_version x) (entry_home x) (body_in a.live.bytes x.held)

-- What there is of a key with an older entry, and of one without.

pub place_twin : (a : StartKeys) (k : ℕ) (t : Tombstone) → Rising a.older.items → IsTwin a k t → place_at (started a) k ≡ Some (twin_place (known_at (lones a.lone) k) t)
place_twin a k t rises is =
    let o = known_at (lones a.lone) k in
    first_place (twins a.older.items (lones a.lone)) (lones a.lone) k (Some (twin_place o t)) (twins_at a.older.items (lones a.lone) k rises ∙ ap (twin_at o) is.found ∙ cond-true (is_older t o) (Some (twin_place o t)) None is.older)

pub place_lone : (a : StartKeys) (k : ℕ) → Rising a.older.items → IsLone a k → place_at (started a) k ≡ place_at (lones a.lone) k
place_lone a k rises is = first_place (twins a.older.items (lones a.lone)) (lones a.lone) k None (twins_at a.older.items (lones a.lone) k rises ∙ is)

pub known_beside : (a : StartKeys) (k : ℕ) (t : Tombstone) → Rising a.older.items → IsTwin a k t → known_at (started a) k ≡ beside t (known_at (lones a.lone) k)
known_beside a k t rises is = ap known_in (place_twin a k t rises is)

pub known_lone : (a : StartKeys) (k : ℕ) → Rising a.older.items → IsLone a k → known_at (started a) k ≡ known_at (lones a.lone) k
known_lone a k rises is = ap known_in (place_lone a k rises is)

-- the same with the parts
pub parts_of : (a : StartKeys) (k : ℕ) (t : Tombstone) → IsTwin a k t → Twin t (known_at (lones a.lone) k)
parts_of a k t is = twin_parts t (known_at (lones a.lone) k) is.older

pub known_twin : (a : StartKeys) (k : ℕ) (t : Tombstone) → Rising a.older.items → (is : IsTwin a k t) → known_at (started a) k ≡ Some (joined ((parts_of a k t is).entry ∷ []) (parts_of a k t is).last)
known_twin a k t rises is = known_beside a k t rises is ∙ twin_known t (known_at (lones a.lone) k) (parts_of a k t is)

last_of_twin : (a : StartKeys) (k : ℕ) (t : Tombstone) (is : IsTwin a k t) → OfLast (Some (parts_of a k t is).last)
last_of_twin a k t is = subst OfLast (parts_of a k t is).last_is (lone_last a.lone k)

below_twin : (a : StartKeys) (k : ℕ) (t : Tombstone) (is : IsTwin a k t) → (parts_of a k t is).entry.version < (parts_of a k t is).last.version
below_twin a k t is = let w = parts_of a k t is in let e = w.version in let lt = w.below in omega (arith, e, lt)

pub twin_dead_in : (a : StartKeys) (n : EntryName) (t : Tombstone) → Rising a.older.items → IsTwin a n.key t → is_dead_in (known_at (started a) n.key) n.version ≡ (tomb_version t == n.version)
twin_dead_in a n t rises is =
    let w = parts_of a n.key t is in
    ap (λ (o : Option KeyRecord). is_dead_in o n.version) (known_twin a n.key t rises is) ∙ twin_dead w.entry w.last n.version (below_twin a n.key t is) (last_of_twin a n.key t is) ∙ ap (λ (v : ℕ). v == n.version) w.version

pub twin_not_forgettable : (a : StartKeys) (k : ℕ) (t : Tombstone) → Rising a.older.items → IsTwin a k t → is_forgettable (known_at (started a) k) ≡ false
twin_not_forgettable a k t rises is = ap is_forgettable (known_twin a k t rises is) ∙ by (is_tombstone (parts_of a k t is).last.body)
  where
    by : (b : Bool) → (b && false) ≡ false
    by true = refl
    by false = refl

-- An older entry is told.

untold_waits : (v h : ℕ) → Awaits (left_by fates.Untold v h) h v
untold_waits v h = record {
  found = deleted v (standing_with v h false ∷ []);
  has = refl;
  stands = cond-true (v == v) (Some (standing_with v h false)) None (eq-eqb v v refl);
  dead = dead_now v (standing_with v h false ∷ []) (ap (λ (b : Bool). b && true) (eq-eqb v v refl));
}

left_waits : (f : Fate) (v h home w : ℕ) (s : StandingEntry) → standing_by f v h ≡ Some s → s ≡ standing_with w home false → Awaits (left_by f v h) home w
left_waits fates.Untold v h home w s is e =
    let same : standing_with v h false ≡ standing_with w home false = (let one : standing_with v h false ≡ s = cc is in one) ∙ e in
    let version : v ≡ w = ap (λ (x : StandingEntry). x.version) same in
    let own : h ≡ home = ap (λ (x : StandingEntry). x.home) same in
    subst (λ (u : ℕ). Awaits (left_by fates.Untold v h) home u) version (subst (λ (u : ℕ). Awaits (left_by fates.Untold v h) u v) own (untold_waits v h))
left_waits fates.Told v h home w s is e =
    let same : standing_with v h true ≡ standing_with w home false = (let one : standing_with v h true ≡ s = cc is in one) ∙ e in
    let flag : true ≡ false = ap (λ (x : StandingEntry). x.told) same in
    absurd (cc flag)
left_waits fates.Gone v h home w s is e = absurd (cc is)
left_waits fates.Moved v h home w s is e = absurd (cc is)

pub twin_not_waiting : (a : StartKeys) (home : ℕ) (n : EntryName) (t : Tombstone) → Rising a.older.items → IsTwin a n.key t → (Awaits (left_of t) home n.version → ⊥) → Awaits (known_at (started a) n.key) home n.version → ⊥
twin_not_waiting a home n t rises is none waits =
    let w = parts_of a n.key t is in
    let own = twin_waits w.entry w.last home n.version (below_twin a n.key t is) (last_of_twin a n.key t is) (subst (λ (o : Option KeyRecord). Awaits o home n.version) (known_twin a n.key t rises is) waits) in
    none (left_waits t.fate (tomb_version t) (tomb_home t) home n.version w.entry w.entry_is own.entry)

abbrev pub older_set : StartKeys → ℕ → Fate → StartKeys
older_set a k f = record { lone = a.lone; older = record { items = fated a.older.items k f; passed = a.older.passed }; late = a.late }

older_other : (a : StartKeys) (k j : ℕ) (f : Fate) → Rising a.older.items → j ≢ k → place_at (twins (fated a.older.items k f) (lones a.lone)) j ≡ place_at (twins a.older.items (lones a.lone)) j
older_other a k j f rises ne = twins_at (fated a.older.items k f) (lones a.lone) j (rising_fated a.older.items k f rises) ∙ ap (twin_at (known_at (lones a.lone) j)) (fated_other a.older.items k j f ne) ∙ sym (twins_at a.older.items (lones a.lone) j rises)

told_joined : (s : StandingEntry) (r : KeyRecord) (w : ℕ) → s.version ≡ w → joined (standing_with s.version s.home true ∷ []) r ≡ told_in w (joined (s ∷ []) r)
told_joined s r w e = ap (λ (b : Bool). record { version = r.version; body = r.body; standing = cond b (standing_with s.version s.home true ∷ r.standing) (s ∷ with_told r.standing w) }) (sym (eq-eqb s.version w e))

pub twin_told : (a : StartKeys) (home : ℕ) (n : EntryName) (t : Tombstone) → Rising a.older.items → IsTwin a n.key t → Awaits (left_of t) home n.version → ToldAt (started a) (started (older_set a n.key fates.Told)) home n
twin_told a home n t rises is waits =
    let k = n.key in
    let v = tomb_version t in
    let h = tomb_home t in
    let o = known_at (lones a.lone) k in
    let own = waits_own t.fate v h home n.version waits in
    let w = parts_of a k t is in
    let b = older_set a k fates.Told in
    let u = with_fate fates.Told t in
    let rises_on : Rising b.older.items = rising_fated a.older.items k fates.Told rises in
    let entry : w.entry ≡ standing_with v h false = (let one : Some w.entry ≡ Some (standing_with v h false) = sym w.entry_is ∙ ap (λ (f : Fate). standing_by f v h) own.untold in cc one) in
    let older : is_older u o ≡ true = lt-ltb v (last_of o) (let e = ap last_of w.last_is in let lt = w.below in omega (arith, e, lt)) in
    let twin : IsTwin b k u = record { found = fated_here a.older.items k fates.Told ∙ ap (option_map (with_fate fates.Told)) is.found; older = older } in
    let was : known_at (started a) k ≡ Some (joined (w.entry ∷ []) w.last) = known_twin a k t rises is in
    let now : known_at (started b) k ≡ Some (joined (standing_with v h true ∷ []) w.last) = known_beside b k u rises_on twin ∙ ap (beside u) w.last_is in
    let entry_version : w.entry.version ≡ n.version = ap (λ (s : StandingEntry). s.version) entry ∙ own.version in
    let told : Some (joined (standing_with v h true ∷ []) w.last) ≡ Some (told_in n.version (joined (w.entry ∷ []) w.last)) = ap (λ (s : StandingEntry). Some (joined (standing_with s.version s.home true ∷ []) w.last)) (sym entry) ∙ ap (λ (r : KeyRecord). Some r) (told_joined w.entry w.last n.version entry_version) in
    let lt = w.below in
    let same : (j : ℕ) → j ≢ k → place_at (started b) j ≡ place_at (started a) j = λ j ne. both_kept (twins a.older.items (lones a.lone)) (twins b.older.items (lones a.lone)) (lones a.lone) (lones a.lone) j (older_other a k j fates.Told rises ne) refl in
    record {
      tells = record {
        waited = subst (λ (x : Option KeyRecord). Awaits x home n.version) (sym was) (older_waits w.entry w.last home n.version (entry ∙ (λ i. standing_with (own.version i) (own.home_is i) false)) (let e = own.version in omega (arith, e, lt)));
        change = record { here = now ∙ told ∙ ap (option_map (told_in n.version)) (sym was); others = λ j ne. ap known_in (same j ne) };
        room = λ j. start_no_room b j ∙ sym (start_no_room a j);
      };
      others = same;
      waits = λ x g after.
          let new = twin_waits (standing_with v h true) w.last g x lt (last_of_twin a k t is) (subst (λ (y : Option KeyRecord). Awaits y g x) now after) in
          let flag : true ≡ false = ap (λ (s : StandingEntry). s.told) new.entry in
          absurd (cc flag);
      fewer =
          let sum = twins_told a.older.items (lones a.lone) k t is.found own.untold is.older in
          let x = untold_both (twins b.older.items (lones a.lone)) (lones a.lone) in
          let y = untold_both (twins a.older.items (lones a.lone)) (lones a.lone) in
          omega (arith, sum, x, y);
    }

-- A change of a key by its last version alone.

abbrev pub with_lone : StartKeys → LoneKeys → StartKeys
with_lone a l = record { lone = l; older = a.older; late = a.late }

pub lone_others : (a : StartKeys) (l : LoneKeys) (j : ℕ) → place_at (lones l) j ≡ place_at (lones a.lone) j → place_at (started (with_lone a l)) j ≡ place_at (started a) j
lone_others a l j same = both_kept (twins a.older.items (lones a.lone)) (twins a.older.items (lones l)) (lones a.lone) (lones l) j (twins_kept a.older.items (lones a.lone) (lones l) j (ap known_in same)) same

lone_stays : (f : Option Tombstone) (o q : Option KeyRecord) → last_of q ≡ last_of o → twin_at o f ≡ None → twin_at q f ≡ None
lone_stays None o q same none = refl
lone_stays (Some t) o q same none = by (is_older t o) refl none
  where
    by : (b : Bool) → is_older t o ≡ b → cond b (Some (twin_place o t)) None ≡ None → twin_at q (Some t) ≡ None
    by true older at = absurd (cc at)
    by false older at = cond-false (is_older t q) (Some (twin_place q t)) None (ap (λ (v : ℕ). is_some (standing_left t) && nat_lt (tomb_version t) v) same ∙ older)

told_last : (o : Option KeyRecord) (w : ℕ) → last_of (option_map (told_in w) o) ≡ last_of o
told_last None w = refl
told_last (Some r) w = refl

without_keeps_last : (o : Option KeyRecord) (w : ℕ) → last_of (option_map (without w) o) ≡ last_of o
without_keeps_last None w = refl
without_keeps_last (Some r) w = refl

pub lone_told : (a : StartKeys) (l : LoneKeys) (home : ℕ) (n : EntryName) → Rising a.older.items → IsLone a n.key → ToldAt (lones a.lone) (lones l) home n → ToldAt (started a) (started (with_lone a l)) home n
lone_told a l home n rises is told =
    let k = n.key in
    let b = with_lone a l in
    let o = known_at (lones a.lone) k in
    let lone : IsLone b k = lone_stays (found_at a.older.items k) o (known_at (lones l) k) (ap last_of told.tells.change.here ∙ told_last o n.version) is in
    let was = known_lone a k rises is in
    let now = known_lone b k rises lone in
    let same : (j : ℕ) → j ≢ k → place_at (started b) j ≡ place_at (started a) j = λ j ne. lone_others a l j (told.others j ne) in
    record {
      tells = record {
        waited = subst (λ (x : Option KeyRecord). Awaits x home n.version) (sym was) told.tells.waited;
        change = record { here = now ∙ told.tells.change.here ∙ ap (option_map (told_in n.version)) (sym was); others = λ j ne. ap known_in (same j ne) };
        room = λ j. start_no_room b j ∙ sym (start_no_room a j);
      };
      others = same;
      waits = λ x g after. let both = told.waits x g (subst (λ (y : Option KeyRecord). Awaits y g x) now after) in (both.0, subst (λ (y : Option KeyRecord). Awaits y g x) (sym was) both.1);
      fewer =
          let stays = ap all_untold (twins_same a.older.items (lones a.lone) (lones l) k rises (λ j ne. ap known_in (told.others j ne)) is lone) in
          let sum = told.fewer in
          let x = untold_both (twins a.older.items (lones l)) (lones l) in
          let y = untold_both (twins a.older.items (lones a.lone)) (lones a.lone) in
          omega (arith, stays, sum, x, y);
    }

pub lone_ahead : (a : StartKeys) (l : LoneKeys) → ((h : ℕ) (n : EntryName) → LoneAhead a.lone h n → LoneAhead l h n) → (h : ℕ) (n : EntryName) → IsAhead a h n → IsAhead (with_lone a l) h n
lone_ahead a l keeps h n ahead = ⊎_elim (λ (x : LoneAhead a.lone h n). inl (keeps h n x)) (λ (y : Ahead a.late h n ⊎ Ahead a.older h n). inr y) ahead

pub older_ahead : (a : StartKeys) (k : ℕ) (f : Fate) (h : ℕ) (n : EntryName) → IsAhead a h n → IsAhead (older_set a k f) h n
older_ahead a k f h n ahead = ⊎_elim (λ (x : LoneAhead a.lone h n). inl x) (λ (y : Ahead a.late h n ⊎ Ahead a.older h n). inr (⊎_elim (λ (z : Ahead a.late h n). inl z) (λ (z : Ahead a.older h n). inr (fated_ahead a.older k f h n z)) y)) ahead

-- an entry of a key without an older one is gone
pub gone_lone : (a : StartKeys) (l : LoneKeys) (k w : ℕ) → Rising a.older.items → IsLone a k → LoneTurns a.lone l k (option_map (without w) (known_at (lones a.lone) k)) → StartTurns a (with_lone a l) k (option_map (without w) (known_at (started a) k))
gone_lone a l k w rises is turns =
    let o = known_at (lones a.lone) k in
    let lone : IsLone (with_lone a l) k = lone_stays (found_at a.older.items k) o (known_at (lones l) k) (ap last_of turns.here ∙ without_keeps_last o w) is in
    record {
      here = known_lone (with_lone a l) k rises lone ∙ turns.here ∙ ap (option_map (without w)) (sym (known_lone a k rises is));
      others = λ j ne. lone_others a l j (turns.others j ne);
      ahead = lone_ahead a l turns.ahead;
    }

pub gone_lone_waits : (a : StartKeys) (l : LoneKeys) (k w home v : ℕ) → Rising a.older.items → IsLone a k → LoneTurns a.lone l k (option_map (without w) (known_at (lones a.lone) k)) → (Awaits (known_at (lones l) k) home v → Awaits (known_at (lones a.lone) k) home v) → Awaits (known_at (started (with_lone a l)) k) home v → Awaits (known_at (started a) k) home v
gone_lone_waits a l k w home v rises is turns kept waits =
    let o = known_at (lones a.lone) k in
    let lone : IsLone (with_lone a l) k = lone_stays (found_at a.older.items k) o (known_at (lones l) k) (ap last_of turns.here ∙ without_keeps_last o w) is in
    subst (λ (x : Option KeyRecord). Awaits x home v) (sym (known_lone a k rises is)) (kept (subst (λ (x : Option KeyRecord). Awaits x home v) (known_lone (with_lone a l) k rises lone) waits))

-- the same of a key with an older one that stays
still_twin : (a : StartKeys) (l : LoneKeys) (k w : ℕ) (t : Tombstone) → IsTwin a k t → known_at (lones l) k ≡ option_map (without w) (known_at (lones a.lone) k) → IsTwin (with_lone a l) k t
still_twin a l k w t is here = record {
  found = is.found;
  older = ap (λ (v : ℕ). is_some (standing_left t) && nat_lt (tomb_version t) v) (ap last_of here ∙ without_keeps_last (known_at (lones a.lone) k) w) ∙ is.older;
}

still_known : (a : StartKeys) (l : LoneKeys) (k w : ℕ) (t : Tombstone) → Rising a.older.items → (is : IsTwin a k t) → known_at (lones l) k ≡ option_map (without w) (known_at (lones a.lone) k) → known_at (started (with_lone a l)) k ≡ Some (joined ((parts_of a k t is).entry ∷ []) (without w (parts_of a k t is).last))
still_known a l k w t rises is here =
    let p = parts_of a k t is in
    known_beside (with_lone a l) k t rises (still_twin a l k w t is here) ∙ ap (beside t) (here ∙ ap (option_map (without w)) p.last_is) ∙ ap (λ (s : Option StandingEntry). Some (joined (list_of s) (without w p.last))) p.entry_is

pub gone_beside : (a : StartKeys) (l : LoneKeys) (k w : ℕ) (t : Tombstone) → Rising a.older.items → IsTwin a k t → tomb_version t ≢ w → LoneTurns a.lone l k (option_map (without w) (known_at (lones a.lone) k)) → StartTurns a (with_lone a l) k (option_map (without w) (known_at (started a) k))
gone_beside a l k w t rises is ne turns =
    let p = parts_of a k t is in
    let same = p.version in
    record {
      here = still_known a l k w t rises is turns.here ∙ ap (λ (r : KeyRecord). Some r) (sym (without_last p.entry p.last w (λ e. ne (sym same ∙ e)))) ∙ ap (option_map (without w)) (sym (known_twin a k t rises is));
      others = λ j other. lone_others a l j (turns.others j other);
      ahead = lone_ahead a l turns.ahead;
    }

pub gone_beside_waits : (a : StartKeys) (l : LoneKeys) (k w home v : ℕ) (t : Tombstone) → Rising a.older.items → IsTwin a k t → LoneTurns a.lone l k (option_map (without w) (known_at (lones a.lone) k)) → Awaits (known_at (started (with_lone a l)) k) home v → Awaits (known_at (started a) k) home v
gone_beside_waits a l k w home v t rises is turns waits =
    let p = parts_of a k t is in
    let lt = below_twin a k t is in
    let last : OfLast (Some (without w p.last)) = subst OfLast (turns.here ∙ ap (option_map (without w)) p.last_is) (lone_last l k) in
    let own = twin_waits p.entry (without w p.last) home v lt last (subst (λ (x : Option KeyRecord). Awaits x home v) (still_known a l k w t rises is turns.here) waits) in
    subst (λ (x : Option KeyRecord). Awaits x home v) (sym (known_twin a k t rises is)) (older_waits p.entry p.last home v own.entry (let e = own.version in omega (arith, e, lt)))

pub gone_untold : (a : StartKeys) (l : LoneKeys) (k w : ℕ) → LoneTurns a.lone l k (option_map (without w) (known_at (lones a.lone) k)) → all_untold (lones l) ≤ all_untold (lones a.lone) → all_untold (started (with_lone a l)) ≤ all_untold (started a)
gone_untold a l k w turns less =
    let fewer = twins_fewer a.older.items (lones a.lone) (lones l) k (λ j ne. ap known_in (turns.others j ne)) (subst (λ (o : Option KeyRecord). NoMore o (known_at (lones a.lone) k)) (sym turns.here) (no_more_without (known_at (lones a.lone) k) w)) in
    let x = untold_both (twins a.older.items (lones l)) (lones l) in
    let y = untold_both (twins a.older.items (lones a.lone)) (lones a.lone) in
    omega (arith, less, fewer, x, y)

-- the older entry is gone
pub record OlderGone (a b : StartKeys) (k : ℕ) : Type 0 where
  pub same : lones b.lone ≡ lones a.lone
  pub items : b.older.items ≡ fated a.older.items k fates.Gone
  pub ahead : (h : ℕ) (n : EntryName) → IsAhead a h n → IsAhead b h n

gone_now : (a b : StartKeys) (k : ℕ) (t : Tombstone) → Rising a.older.items → IsTwin a k t → OlderGone a b k → known_at (started b) k ≡ known_at (lones a.lone) k
gone_now a b k t rises is gone =
    let found : found_at b.older.items k ≡ Some (with_fate fates.Gone t) = ap (λ (xs : List Tombstone). found_at xs k) gone.items ∙ fated_here a.older.items k fates.Gone ∙ ap (option_map (with_fate fates.Gone)) is.found in
    let lone : IsLone b k = ap (twin_at (known_at (lones b.lone) k)) found in
    known_lone b k (subst Rising (sym gone.items) (rising_fated a.older.items k fates.Gone rises)) lone ∙ ap (λ (ps : List (ℕ × Place)). known_at ps k) gone.same

pub gone_older : (a b : StartKeys) (k w : ℕ) (t : Tombstone) → Rising a.older.items → IsTwin a k t → tomb_version t ≡ w → OlderGone a b k → StartTurns a b k (option_map (without w) (known_at (started a) k))
gone_older a b k w t rises is e gone =
    let p = parts_of a k t is in
    let left : without w (joined (p.entry ∷ []) p.last) ≡ p.last = ap (λ (x : ℕ). without x (joined (p.entry ∷ []) p.last)) (sym (p.version ∙ e)) ∙ without_older p.entry p.last (below_twin a k t is) (last_of_twin a k t is) in
    record {
      here = gone_now a b k t rises is gone ∙ p.last_is ∙ ap (λ (r : KeyRecord). Some r) (sym left) ∙ ap (option_map (without w)) (sym (known_twin a k t rises is));
      others = λ j ne. both_kept (twins a.older.items (lones a.lone)) (twins b.older.items (lones b.lone)) (lones a.lone) (lones b.lone) j (ap (λ (ps : List (ℕ × Place)). place_at (twins b.older.items ps) j) gone.same ∙ ap (λ (xs : List Tombstone). place_at (twins xs (lones a.lone)) j) gone.items ∙ older_other a k j fates.Gone rises ne) (ap (λ (ps : List (ℕ × Place)). place_at ps j) gone.same);
      ahead = gone.ahead;
    }

pub gone_older_untold : (a b : StartKeys) (k : ℕ) → OlderGone a b k → all_untold (started b) ≤ all_untold (started a)
gone_older_untold a b k gone =
    let fewer = twins_gone a.older.items (lones a.lone) k in
    let now : all_untold (started b) ≡ all_untold (twins (fated a.older.items k fates.Gone) (lones a.lone) ++ lones a.lone) = ap (λ (ps : List (ℕ × Place)). all_untold (twins b.older.items ps ++ ps)) gone.same ∙ ap (λ (xs : List Tombstone). all_untold (twins xs (lones a.lone) ++ lones a.lone)) gone.items in
    let x = untold_both (twins (fated a.older.items k fates.Gone) (lones a.lone)) (lones a.lone) in
    let y = untold_both (twins a.older.items (lones a.lone)) (lones a.lone) in
    omega (arith, fewer, now, x, y)

pub gone_older_waits : (a b : StartKeys) (k home v : ℕ) (t : Tombstone) → Rising a.older.items → IsTwin a k t → OlderGone a b k → (Awaits (known_at (lones a.lone) k) home v → IsAhead b home (name_with k v)) → Awaits (known_at (started b) k) home v → IsAhead b home (name_with k v)
gone_older_waits a b k home v t rises is gone own waits = own (subst (λ (x : Option KeyRecord). Awaits x home v) (gone_now a b k t rises is gone) waits)

-- a record that is taken out
pub start_cleared : (a : StartKeys) (l : LoneKeys) (k : ℕ) → LoneTurns a.lone l k None → StartTurns a (with_lone a l) k None
start_cleared a l k turns = record {
  here = start_keeps (λ (o : Option KeyRecord). o ≡ None) (with_lone a l) k (λ t o none. ap (beside t) none) turns.here;
  others = λ j ne. lone_others a l j (turns.others j ne);
  ahead = lone_ahead a l turns.ahead;
}

over_known : (o q : Option Place) → untold_by (known_in (over o q)) ≤ untold_of o + untold_by (known_in q)
over_known None q = omega arith
over_known (Some p) q = omega arith

pub start_fewer : (a : StartKeys) (l : LoneKeys) (k : ℕ) → LoneTurns a.lone l k None → all_untold (lones l) + untold_by (known_at (lones a.lone) k) ≤ all_untold (lones a.lone) → all_untold (started (with_lone a l)) + untold_by (known_at (started a) k) ≤ all_untold (started a)
start_fewer a l k turns less =
    let ts = twins a.older.items (lones a.lone) in
    let fewer = twins_cleared a.older.items (lones a.lone) (lones l) k (λ j ne. ap known_in (turns.others j ne)) turns.here in
    let at = ap (λ (o : Option Place). untold_by (known_in o)) (place_both ts (lones a.lone) k) in
    let few = over_known (place_at ts k) (place_at (lones a.lone) k) in
    let x = untold_both (twins a.older.items (lones l)) (lones l) in
    let y = untold_both ts (lones a.lone) in
    omega (arith, less, fewer, at, few, x, y)

-- Keys that are added.

added_here : (a : StartKeys) (t : Tombstone) → place_at (placed_lives a.lone.live) (key_of t) ≡ None → AreLess a.lone.deleted.items (key_of t) → place_at (lones (record { live = a.lone.live; deleted = with_more a.lone.deleted t })) (key_of t) ≡ Some (place_of t)
added_here a t apart less = first_place (placed_lives a.lone.live) (tomb_places (a.lone.deleted.items ++ t ∷ [])) (key_of t) None apart ∙ tomb_found (a.lone.deleted.items ++ t ∷ []) (key_of t) ∙ ap (option_map place_of) (more_here a.lone.deleted.items t less)

pub deleted_added : (a : StartKeys) (t : Tombstone) → place_at (placed_lives a.lone.live) (key_of t) ≡ None → AreLess a.lone.deleted.items (key_of t) → passed_at a.lone.deleted (tomb_home t) ≤ length a.lone.deleted.items → LoneAdded a (with_lone a (record { live = a.lone.live; deleted = with_more a.lone.deleted t })) (key_of t) (place_of t)
deleted_added a t apart less le =
    let ts = a.lone.deleted.items in
    record {
      here = added_here a t apart less;
      others = λ j ne. both_kept (placed_lives a.lone.live) (placed_lives a.lone.live) (tomb_places ts) (tomb_places (ts ++ t ∷ [])) j refl (tomb_found (ts ++ t ∷ []) j ∙ ap (option_map place_of) (more_other ts t j ne) ∙ sym (tomb_found ts j));
      older = refl;
      late = refl;
      ahead = more_ahead a.lone.deleted t;
      own = λ home v waits.
          let own = waits_own t.fate (tomb_version t) (tomb_home t) home v waits in
          let name : name_with (key_of t) (tomb_version t) ≡ name_with (key_of t) v = ap (name_with (key_of t)) own.version in
          subst (λ (x : ℕ). Ahead (with_more a.lone.deleted t) x (name_with (key_of t) v)) own.home_is (subst (Ahead (with_more a.lone.deleted t) (tomb_home t)) name (own_ahead a.lone.deleted t le));
    }

pub live_added : (a : StartKeys) (l : LoneKeys) (bytes : List ℕ) (x : LiveKey) → TurnsAt (lones a.lone) (lones l) (live_key x) (Some (live_place bytes x)) → l.deleted ≡ a.lone.deleted → LoneAdded a (with_lone a l) (live_key x) (live_place bytes x)
live_added a l bytes x turns same = record {
  here = turns.here;
  others = turns.others;
  older = refl;
  late = refl;
  ahead = λ h n far. subst (λ (d : Tombs). Ahead d h n) (sym same) far;
  own = λ home v waits. absurd (value_waits bytes x.held x.fate (entry_version x) (entry_home x) home v waits);
}

pub live_stays : (a : StartKeys) (l : LoneKeys) → lones l ≡ lones a.lone → l.deleted ≡ a.lone.deleted → Stays a (with_lone a l)
live_stays a l same deleted = record {
  places = ap (λ (ps : List (ℕ × Place)). twins a.older.items ps ++ ps) same;
  ahead = lone_ahead a l (λ h n far. subst (λ (d : Tombs). Ahead d h n) (sym deleted) far);
}

twins_more : (ts : List Tombstone) (t : Tombstone) (ps : List (ℕ × Place)) (k : ℕ) → place_at (twins (ts ++ t ∷ []) ps) k ≡ over (place_at (twins ts ps) k) (place_at (twins (t ∷ []) ps) k)
twins_more [] t ps k = refl
twins_more (x ∷ ts) t ps k = ⊎_elim
    (λ (e : key_of x ≡ k). let p = twin_at (known_at ps (key_of x)) (Some x) in hits (key_of x) p (twins (ts ++ t ∷ []) ps) k e ∙ ap (over p) (twins_more ts t ps k) ∙ over_over p (place_at (twins ts ps) k) (place_at (twins (t ∷ []) ps) k) ∙ ap (λ (o : Option Place). over o (place_at (twins (t ∷ []) ps) k)) (sym (hits (key_of x) p (twins ts ps) k e)))
    (λ (ne : key_of x ≢ k). let p = twin_at (known_at ps (key_of x)) (Some x) in skip (key_of x) p (twins (ts ++ t ∷ []) ps) k ne ∙ twins_more ts t ps k ∙ ap (λ (o : Option Place). over o (place_at (twins (t ∷ []) ps) k)) (sym (skip (key_of x) p (twins ts ps) k ne)))
    (cases_eq (key_of x) k)
  where
    over_over : (o p q : Option Place) → over o (over p q) ≡ over (over o p) q
    over_over None p q = refl
    over_over (Some x) p q = refl

abbrev pub with_older : StartKeys → Tombstone → StartKeys
with_older a t = record { lone = a.lone; older = with_more a.older t; late = a.late }

pub older_added : (a : StartKeys) (t : Tombstone) → AreLess a.older.items (key_of t) → is_older t (known_at (lones a.lone) (key_of t)) ≡ true → passed_at a.older (tomb_home t) ≤ length a.older.items → OlderAdded a (with_older a t) t
older_added a t less older le =
    let ps = lones a.lone in
    let k = key_of t in
    let o = known_at ps k in
    let one : place_at (twins (t ∷ []) ps) k ≡ Some (twin_place o t) = hits k (twin_at o (Some t)) [] k refl ∙ ap (λ (q : Option Place). over q None) (cond-true (is_older t o) (Some (twin_place o t)) None older) in
    let here : place_at (twins (a.older.items ++ t ∷ []) ps) k ≡ Some (twin_place o t) = twins_more a.older.items t ps k ∙ ap (λ (q : Option Place). over q (place_at (twins (t ∷ []) ps) k)) (twins_missing a.older.items ps k (less_missing a.older.items k less)) ∙ one in
    record {
      here = first_place (twins (a.older.items ++ t ∷ []) ps) ps k (Some (twin_place o t)) here;
      others = λ j ne. both_kept (twins a.older.items ps) (twins (a.older.items ++ t ∷ []) ps) ps ps j (twins_more a.older.items t ps j ∙ ap (over (place_at (twins a.older.items ps) j)) (skip k (twin_at o (Some t)) [] j (λ e. ne (sym e))) ∙ over_none (place_at (twins a.older.items ps) j)) refl;
      ahead = λ h n far. ⊎_elim (λ (x : LoneAhead a.lone h n). inl x) (λ (y : Ahead a.late h n ⊎ Ahead a.older h n). inr (⊎_elim (λ (z : Ahead a.late h n). inl z) (λ (z : Ahead a.older h n). inr (more_ahead a.older t h n z)) y)) far;
      own = inr (inr (own_ahead a.older t le));
    }

-- Who waits by the entry of a last version.

pub record LoneWaits (a : LoneKeys) (k home v : ℕ) : Type 0 where
  pub found : Tombstone
  pub is : found_at a.deleted.items k ≡ Some found
  pub home_is : tomb_home found ≡ home
  pub version : tomb_version found ≡ v

pub lone_waits : (a : LoneKeys) (k home v : ℕ) → Awaits (known_at (lones a) k) home v → LoneWaits a k home v
lone_waits a k home v waits = by (live_at a.live.items k) (found_at a.deleted.items k) refl (subst (λ (o : Option Place). Awaits (known_in o) home v) (place_both (placed_lives a.live) (tomb_places a.deleted.items) k ∙ ap (λ (o : Option Place). over o (place_at (tomb_places a.deleted.items) k)) (placed_found a.live.bytes a.live.items k) ∙ ap (over (option_map (live_place a.live.bytes) (live_at a.live.items k))) (tomb_found a.deleted.items k)) waits)
  where
    by : (o : Option LiveKey) (q : Option Tombstone) → found_at a.deleted.items k ≡ q → Awaits (known_in (over (option_map (live_place a.live.bytes) o) (option_map place_of q))) home v → LoneWaits a k home v
    by None None is at = absurd (none_waits home v at)
    by None (Some t) is at = let own = waits_own t.fate (tomb_version t) (tomb_home t) home v at in record { found = t; is = is; home_is = own.home_is; version = own.version }
    by (Some x) q is at = absurd (value_waits a.live.bytes x.held x.fate (entry_version x) (entry_home x) home v at)

abbrev pub AsksAbout : StartKeys → LoneKeys → ℕ → Type 0
AsksAbout b l k = (home v : ℕ) → Awaits (known_at (lones l) k) home v → IsAhead b home (name_with k v)

pub asks_none : (b : StartKeys) (l : LoneKeys) (k : ℕ) → found_at l.deleted.items k ≡ None → AsksAbout b l k
asks_none b l k none home v waits = let w = lone_waits l k home v waits in let is = w.is in absurd (cc (none, is))

pub asks_one : (b : StartKeys) (l : LoneKeys) (k : ℕ) (t : Tombstone) → found_at l.deleted.items k ≡ Some t → IsAhead b (tomb_home t) (name_of t) → AsksAbout b l k
asks_one b l k t is ahead home v waits =
    let w = lone_waits l k home v waits in
    let same : w.found ≡ t = (let one : Some w.found ≡ Some t = sym w.is ∙ is in cc one) in
    let key : key_of t ≡ k = found_key l.deleted.items k t is in
    let version : tomb_version t ≡ v = ap tomb_version (sym same) ∙ w.version in
    let own : tomb_home t ≡ home = ap tomb_home (sym same) ∙ w.home_is in
    subst (λ (x : ℕ). IsAhead b x (name_with k v)) own (subst (IsAhead b (tomb_home t)) (λ i. name_with (key i) (version i)) ahead)

-- A home is asked about one more.

abbrev pub PassesOne : StartKeys → StartKeys → ℕ → Tombstone → Type 0
PassesOne a b home t = (h : ℕ) (n : EntryName) → IsAhead a h n → ((h ≡ home) × (n ≡ name_of t) × (tomb_home t ≡ home)) ⊎ IsAhead b h n

abbrev pub Passing : Tombs → Tombs → ℕ → Tombstone → Type 0
Passing a b home t = (h : ℕ) (n : EntryName) → Ahead a h n → ((h ≡ home) × (n ≡ name_of t) × (tomb_home t ≡ home)) ⊎ Ahead b h n

pub passes_older : (a : StartKeys) (d : Tombs) (home : ℕ) (t : Tombstone) → Passing a.older d home t → PassesOne a (record { lone = a.lone; older = d; late = a.late }) home t
passes_older a d home t passes h n ahead = ⊎_elim
    (λ (x : LoneAhead a.lone h n). inr (inl x))
    (λ (y : Ahead a.late h n ⊎ Ahead a.older h n). ⊎_elim
    (λ (z : Ahead a.late h n). inr (inr (inl z)))
    (λ (z : Ahead a.older h n). ⊎_elim (λ (own : (h ≡ home) × (n ≡ name_of t) × (tomb_home t ≡ home)). inl own) (λ (still : Ahead d h n). inr (inr (inr still))) (passes h n z))
    y)
    ahead

pub none_ahead : (a : StartKeys) (home : ℕ) (n : EntryName) → (Ahead a.lone.deleted home n → ⊥) → (Ahead a.late home n → ⊥) → (Ahead a.older home n → ⊥) → IsAhead a home n → ⊥
none_ahead a home n one two three ahead = ⊎_elim one (λ (y : Ahead a.late home n ⊎ Ahead a.older home n). ⊎_elim two three y) ahead

pub same_places : (a : StartKeys) (d : Tombs) → d.items ≡ a.older.items → started (record { lone = a.lone; older = d; late = a.late }) ≡ started a
same_places a d same = ap (λ (xs : List Tombstone). twins xs (lones a.lone) ++ lones a.lone) same

-- By how many entries a key of these may still die.

body_calm : (r : KeyRecord) (l : Look) → (l ≡ looks.Deleted → ⊥) → Shows (Some r) l → lone_deaths (Some r) ≡ 0
body_calm r l ne is = by r.body is
  where
    by : (b : Body) → ShowsBody b l → cond (is_tombstone b) (count_of (home_alive r)) 0 ≡ 0
    by (bodies.Pointer p) shows = refl
    by (bodies.Embedded v) shows = refl
    by bodies.Tombstone shows = absurd (ne shows)

pub value_calm : (o : Option KeyRecord) (l : Look) → (l ≡ looks.Deleted → ⊥) → Shows o l → lone_deaths o ≡ 0
value_calm None l ne is = refl
value_calm (Some r) l ne is = body_calm r l ne is

pub start_calm : (a : StartKeys) (k : ℕ) → Rising a.older.items → IsLone a k → lone_deaths (known_at (started a) k) ≡ 0
start_calm a k rises is = ap lone_deaths (known_lone a k rises is) ∙ lone_calm a.lone k

-- What a call that is answered as it is says.

pub map_none : {A P Q : Type 0} (o : Option A) → (P → Q) → IfNone o P → IfNone o Q
map_none None f is = f is
map_none (Some x) f is = tt

pub map_some : {A : Type 0} {P Q : A → Type 0} (o : Option A) → ((x : A) → P x → Q x) → IfSome o P → IfSome o Q
map_some None f is = tt
map_some (Some x) f is = f x is

-- The slot of a key with an older entry.

entry_known : (a : StartKeys) (k : ℕ) (t : Tombstone) (s : StandingEntry) (is : IsTwin a k t) → IfSome (standing_left t) (λ x. s ≡ x) → s ≡ (parts_of a k t is).entry
entry_known a k t s is same = subst (λ (o : Option StandingEntry). IfSome o (λ x. s ≡ x)) (parts_of a k t is).entry_is same

pub slot_below : (a : StartKeys) (k : ℕ) (t : Tombstone) (p : Place) (s : StandingEntry) → IsTwin a k t → p ≡ record { known = known_at (lones a.lone) k; room = 1 } → IfSome (standing_left t) (λ x. s ≡ x) → s.version < last_of p.known
slot_below a k t p s is at same =
    let w = parts_of a k t is in
    let e = ap (λ (x : StandingEntry). x.version) (entry_known a k t s is same) in
    let last = ap (λ (q : Place). last_of q.known) at ∙ ap last_of w.last_is in
    let version = w.version in
    let lt = w.below in
    omega (arith, e, last, version, lt)

abbrev pub slot_with : Option KeyRecord → Place
slot_with o = record { known = o; room = 1 }

pub slot_beside : (a : StartKeys) (k : ℕ) (t : Tombstone) (p : Place) (s : StandingEntry) → Rising a.older.items → IsTwin a k t → p ≡ record { known = known_at (lones a.lone) k; room = 1 } → IfSome (standing_left t) (λ x. s ≡ x) → slot_with (option_map (joined (s ∷ [])) p.known) ≡ slot_with (known_at (started a) k)
slot_beside a k t p s rises is at same =
    let w = parts_of a k t is in
    let one : option_map (joined (s ∷ [])) p.known ≡ option_map (joined (s ∷ [])) (known_at (lones a.lone) k) = ap (λ (q : Place). option_map (joined (s ∷ [])) q.known) at in
    let two : option_map (joined (s ∷ [])) (known_at (lones a.lone) k) ≡ option_map (joined (w.entry ∷ [])) (known_at (lones a.lone) k) = ap (λ (x : StandingEntry). option_map (joined (x ∷ [])) (known_at (lones a.lone) k)) (entry_known a k t s is same) in
    let three : option_map (joined (w.entry ∷ [])) (known_at (lones a.lone) k) ≡ beside t (known_at (lones a.lone) k) = ap (λ (o : Option StandingEntry). option_map (joined (list_of o)) (known_at (lones a.lone) k)) (sym w.entry_is) in
    ap slot_with (one ∙ two ∙ three ∙ sym (known_beside a k t rises is))
