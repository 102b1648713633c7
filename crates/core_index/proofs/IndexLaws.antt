-- Which entries wait to be told, after each change.
use Rattle.std.proofs.Common.{◌≡◌, ◌≢◌, ◌⊎◌, inl, ⊎_elim, ℕ, zero, suc, ◌+◌, ◌<◌, ◌≤◌, ◌==◌, Bool, true, false, cond, ◌&&◌, take, List, [], ◌∷◌, ◌++◌, Option, Some, None, length, inr, refl, sym, ◌∙◌, ap, subst, arith}
use Rattle.std.specs.Prelude.{Result, Ok, Err, IfOk, OnOk, OnErr, is_some}
use Rattle.std.specs.List.{AllByRecursion}
use Rattle.std.proofs.lemmas.Bool.{cases_eq, eqb-true, eq-eqb, ne_eqb, cond-true, cond-false}
use Rattle.std.proofs.lemmas.List.{append_assoc}
use Rattle.log_entry.specs.declared.entry.EntryName.{EntryName}
use Rattle.core_index.specs.declared.types.Fate.{Fate}
use Rattle.core_index.specs.declared.types.Fate.TheVariants as fates
use Rattle.core_index.specs.declared.types.Marked.{Marked}
use Rattle.core_index.specs.declared.types.Record.{Record}
use Rattle.core_index.specs.declared.types.Standee.{Standee}
use Rattle.core_index.specs.declared.types.StandingEntry.{StandingEntry}
use Rattle.core_index.specs.declared.types.Tombstone.{Tombstone}
use Rattle.core_index.specs.declared.types.TheConstants.{NAMES_OF_CHANGE}
use Rattle.core_index.specs.Marks.{kept}
use Rattle.core_index.specs.Records.{KeyRecord, Awaits, list_of, is_tombstone, is_dead, dies_of, standing_at, standing_of, standing_with, live_version, opened}
use Rattle.core_index.specs.Slots.{Place, mortal, standee_with, count_dead, count_of, lone_deaths, alive_at, home_in, home_alive, OnlyDead}
use Rattle.core_index.specs.Noted.{Book, Noted, NotedIfDead, count_dead_in, deaths_of, name_with}
use Rattle.core_index.specs.declared.start_keys.StartKeys.{StartKeys}
use Rattle.core_index.specs.Lones.{lones, LoneAhead}
use Rattle.core_index.specs.Starts.{started, joined, OfLast, twin_place, twins, IsAhead}
use Rattle.core_index.specs.Tombs.{tomb_version, tomb_home, Tombs, Ahead, key_of, name_of, standing_left, standing_by, AreLess}
use Rattle.core_index.specs.Index.{place_at, known_in, room_in, known_at, room_at, mortal_in, all_mortal, all_untold, all_places, Step, Changes, ToldAt, StartTurns, LoneAdded, OlderAdded, EntersLone, KeepsWaiting, Stays, DeadOrAhead, Admits, HasNoneAbove, EntersAs, Entering, opened_in, IsIndex}
use Rattle.core_index.proofs.TombLaws.{less_missing}
use Rattle.core_index.proofs.TwinLaws.{twins_missing, twins_kept, twin_waits}
use Rattle.core_index.proofs.OverLaws.{first_place, both_kept}
use Rattle.core_index.proofs.PlaceLaws.{place_there, place_else, place_kept, known_there, room_both}
use Rattle.core_index.proofs.StandingLaws.{found_has}
use Rattle.core_index.proofs.DeadLaws.{alive_is, alive_none}
use Rattle.core_index.proofs.SlotLaws.{awaits_needs, none_waits}

-- a name that a home is still to be told
abbrev pub Waiting : Book → StartKeys → ℕ → EntryName → Type 0
Waiting b a home n = Noted b home n ⊎ IsAhead a home n

abbrev pub KeepsNames : Book → Book → Type 0
KeepsNames b c = (h : ℕ) (n : EntryName) → Noted b h n → Noted c h n

abbrev pub KeepsAhead : StartKeys → StartKeys → Type 0
KeepsAhead a d = (h : ℕ) (n : EntryName) → IsAhead a h n → IsAhead d h n

still_waiting : (a d : StartKeys) (b c : Book) → KeepsNames b c → KeepsAhead a d → (h : ℕ) (n : EntryName) → Waiting b a h n → Waiting c d h n
still_waiting a d b c kept ahead h n waits = ⊎_elim (λ (noted : Noted b h n). inl (kept h n noted)) (λ (far : IsAhead a h n). inr (ahead h n far)) waits

-- a change of one key, by which one entry may die
pub index_step : (es fs : List (ℕ × Place)) (a d : StartKeys) (b c : Book) (k : ℕ) (dead : Option Standee) → IsIndex es a b → ((j : ℕ) → j ≢ k → known_at (all_places fs d) j ≡ known_at (all_places es a) j) → DeadOrAhead d k (known_at (all_places es a) k) (known_at (all_places fs d) k) dead
    → ((v h : ℕ) → dead ≡ Some (standee_with v h) → Noted c h (name_with k v)) → KeepsNames b c → KeepsAhead a d → all_mortal fs ≤ c.spare → IsIndex fs d c
index_step es fs a d b c k dead is others only added kept ahead le = record {
  noted = λ j v h waits. ⊎_elim
      (λ (e : j ≡ k).
      let here : Awaits (known_at (all_places fs d) k) h v = subst (λ (i : ℕ). Awaits (known_at (all_places fs d) i) h v) e waits in
      let noted : Waiting c d h (name_with k v) = ⊎_elim (λ (was : Awaits (known_at (all_places es a) k) h v). still_waiting a d b c kept ahead h (name_with k v) (is.noted k v h was)) (λ (new : (dead ≡ Some (standee_with v h)) ⊎ IsAhead d h (name_with k v)). ⊎_elim (λ (died : dead ≡ Some (standee_with v h)). inl (added v h died)) (λ (far : IsAhead d h (name_with k v)). inr far) new) (only v h here) in
      subst (λ (i : ℕ). Waiting c d h (name_with i v)) (sym e) noted)
      (λ (ne : j ≢ k). still_waiting a d b c kept ahead h (name_with j v) (is.noted j v h (subst (λ (o : Option KeyRecord). Awaits o h v) (others j ne) waits)))
      (cases_eq j k);
  spare = le;
}

no_death : (k : ℕ) (c : Book) (v h : ℕ) → None ≡ Some (standee_with v h) → Noted c h (name_with k v)
no_death k c v h none = absurd (cc none)

-- a change of one key by which none dies
pub index_same : (es fs : List (ℕ × Place)) (a d : StartKeys) (b c : Book) (k : ℕ) → IsIndex es a b → ((j : ℕ) → j ≢ k → known_at (all_places fs d) j ≡ known_at (all_places es a) j) → ((v h : ℕ) → Awaits (known_at (all_places fs d) k) h v → Awaits (known_at (all_places es a) k) h v)
    → KeepsNames b c → KeepsAhead a d → all_mortal fs ≤ c.spare → IsIndex fs d c
index_same es fs a d b c k is others only kept ahead le = index_step es fs a d b c k None is others (λ v h waits. inl (only v h waits)) (no_death k c) kept ahead le

pub settled_index : (es fs : List (ℕ × Place)) (a : StartKeys) (b c : Book) (k : ℕ) (p now : Place) (dead : Option Standee) (spared : ℕ) → IsIndex es a b → place_at es k ≡ Some p → Step es fs k (Some now) → OnlyDead (known_at es k) (known_at fs k) dead → mortal_in (place_at fs k) + count_dead dead + spared ≡ mortal_in (place_at es k)
    → ((v h : ℕ) → dead ≡ Some (standee_with v h) → Noted c h (name_with k v)) → KeepsNames b c → c.spare + spared + count_dead dead ≡ b.spare → IsIndex fs a c
settled_index es fs a b c k p now dead spared is at step only mortal added kept spare =
    let sum = step.count in
    let same : mortal_in (place_at fs k) ≡ mortal_in (Some now) = ap mortal_in step.here in
    let room = is.spare in
    index_step es fs a a b c k dead is
    (λ j ne. ap known_in (place_kept es fs a a j (step.others j ne) refl))
    (λ v h after. ⊎_elim (λ (waits : Awaits (known_at es k) h v). inl (subst (λ (o : Option KeyRecord). Awaits o h v) (sym (known_there es a k p at)) waits)) (λ (died : dead ≡ Some (standee_with v h)). inr (inl died)) (only v h (subst (λ (o : Option KeyRecord). Awaits o h v) (known_there fs a k now step.here) after)))
    added kept (λ h n far. far) (omega (arith, sum, same, mortal, spare, room))

pub settled_change : (es fs : List (ℕ × Place)) (a : StartKeys) (k : ℕ) (now : Place) → Step es fs k (Some now) → Changes (all_places es a) (all_places fs a) k now.known
settled_change es fs a k now step = record { here = ap known_in (place_there fs a k now step.here); others = λ j ne. ap known_in (place_kept es fs a a j (step.others j ne) refl) }

-- more room alone
pub roomier : (es : List (ℕ × Place)) (a : StartKeys) (b c : Book) → IsIndex es a b → KeepsNames b c → b.spare ≤ c.spare → IsIndex es a c
roomier es a b c is kept le = record {
  noted = λ k v h waits. still_waiting a a b c kept (λ i n far. far) h (name_with k v) (is.noted k v h waits);
  spare = let s = is.spare in omega (arith, s, le);
}

-- a key's record stays, and its room grows by one
pub admits_known : (es fs : List (ℕ × Place)) (a d : StartKeys) (k : ℕ) → Admits es fs a d k → (j : ℕ) → known_at (all_places fs d) j ≡ known_at (all_places es a) j
admits_known es fs a d k is j = ⊎_elim
    (λ (e : j ≡ k). ap (known_at (all_places fs d)) e ∙ ap known_in (place_there fs d k (record { known = known_at (all_places es a) k; room = room_at es k + 1 }) is.here) ∙ ap (known_at (all_places es a)) (sym e))
    (λ (ne : j ≢ k). ap known_in (place_kept es fs a d j (is.others j ne) (is.others_left j ne)))
    (cases_eq j k)

pub admits_room : (es fs : List (ℕ × Place)) (a d : StartKeys) (k : ℕ) → Admits es fs a d k → room_at (all_places fs d) k ≡ room_at (all_places es a) k + 1
admits_room es fs a d k is = room_both fs d k ∙ ap room_in is.here ∙ ap (λ (n : ℕ). n + 1) (sym (room_both es a k))

pub admits_others : (es fs : List (ℕ × Place)) (a d : StartKeys) (k : ℕ) → Admits es fs a d k → (j : ℕ) → j ≢ k → room_at (all_places fs d) j ≡ room_at (all_places es a) j
admits_others es fs a d k is j ne = ap room_in (place_kept es fs a d j (is.others j ne) (is.others_left j ne))

pub same_places : (es fs : List (ℕ × Place)) (a d : StartKeys) → fs ≡ es → d ≡ a → all_places fs d ≡ all_places es a
same_places es fs a d e f = λ i. all_places (e i) (f i)

pub admitted_index : {T E : Type 0} (r : Result T E) (es fs : List (ℕ × Place)) (a d : StartKeys) (b c : Book) (k : ℕ) → IsIndex es a b → OnOk r (Admits es fs a d k) → OnErr r (fs ≡ es) → OnErr r (d ≡ a) → KeepsNames b c → b.spare + NAMES_OF_CHANGE + lone_deaths (known_at (started a) k) ≤ c.spare → IsIndex fs d c
admitted_index (Err e) es fs a d b c k is ok err left same spare = subst (λ (xs : List (ℕ × Place)). IsIndex xs d c) (sym err) (subst (λ (x : StartKeys). IsIndex es x c) (sym left) (roomier es a b c is same (omega (arith, spare))))
admitted_index (Ok x) es fs a d b c k is admits err left same spare =
    let known = admits_known es fs a d k admits in
    let count = admits.count in
    let room = is.spare in
    index_same es fs a d b c k is (λ j ne. known j) (λ v h waits. subst (λ (o : Option KeyRecord). Awaits o h v) (known k) waits) same admits.ahead (omega (arith, count, room, spare))

-- the rest of what it says, where it may have failed
pub admitted_others : {T E : Type 0} (r : Result T E) (es fs : List (ℕ × Place)) (a d : StartKeys) (k : ℕ) → OnOk r (Admits es fs a d k) → OnErr r (fs ≡ es) → OnErr r (d ≡ a) → (j : ℕ) → j ≢ k → room_at (all_places fs d) j ≡ room_at (all_places es a) j
admitted_others (Err e) es fs a d k ok err left j ne = ap (λ (xs : List (ℕ × Place)). room_at xs j) (same_places es fs a d err left)
admitted_others (Ok x) es fs a d k admits err left j ne = admits_others es fs a d k admits j ne

pub admitted_known : {T E : Type 0} (r : Result T E) (es fs : List (ℕ × Place)) (a d : StartKeys) (k : ℕ) → OnOk r (Admits es fs a d k) → OnErr r (fs ≡ es) → OnErr r (d ≡ a) → (j : ℕ) → known_at (all_places fs d) j ≡ known_at (all_places es a) j
admitted_known (Err e) es fs a d k ok err left j = ap (λ (xs : List (ℕ × Place)). known_at xs j) (same_places es fs a d err left)
admitted_known (Ok x) es fs a d k admits err left j = admits_known es fs a d k admits j

pub admitted_untold : {T E : Type 0} (r : Result T E) (es fs : List (ℕ × Place)) (a d : StartKeys) (k : ℕ) → OnOk r (Admits es fs a d k) → OnErr r (fs ≡ es) → OnErr r (d ≡ a) → all_untold (all_places fs d) ≤ all_untold (all_places es a)
admitted_untold (Err e) es fs a d k ok err left = let same = ap all_untold (same_places es fs a d err left) in omega (arith, same)
admitted_untold (Ok x) es fs a d k admits err left = admits.untold

pub admitted_err : {T E : Type 0} (r : Result T E) (es fs : List (ℕ × Place)) (a d : StartKeys) → OnErr r (fs ≡ es) → OnErr r (d ≡ a) → OnErr r (all_places fs d ≡ all_places es a)
admitted_err (Err e) es fs a d err left = same_places es fs a d err left
admitted_err (Ok x) es fs a d err left = tt

-- Names that are taken out one after another.

abbrev pub TakesOut : Book → Book → ℕ → EntryName → Type 0
TakesOut b c home n = (h : ℕ) (m : EntryName) → Noted b h m → ((h ≡ home) × (m ≡ n)) ⊎ Noted c h m

abbrev pub Takes : Book → StartKeys → Book → StartKeys → ℕ → EntryName → Type 0
Takes b a c d home n = (h : ℕ) (m : EntryName) → Waiting b a h m → ((h ≡ home) × (m ≡ n)) ⊎ Waiting c d h m

pub takes_noted : (a d : StartKeys) (b c : Book) (home : ℕ) (n : EntryName) → TakesOut b c home n → KeepsAhead a d → Takes b a c d home n
takes_noted a d b c home n taken ahead h m waits = ⊎_elim
    (λ (noted : Noted b h m). ⊎_elim (λ (same : (h ≡ home) × (m ≡ n)). inl same) (λ (still : Noted c h m). inr (inl still)) (taken h m noted))
    (λ (far : IsAhead a h m). inr (inr (ahead h m far)))
    waits

abbrev pub Passes : StartKeys → StartKeys → ℕ → Tombstone → Type 0
Passes a d home t = (h : ℕ) (m : EntryName) → IsAhead a h m → ((h ≡ home) × (m ≡ name_of t) × ((tomb_home t) ≡ home)) ⊎ IsAhead d h m

pub takes_passed : (a d e : StartKeys) (b : Book) (home : ℕ) (t : Tombstone) → Passes a d home t → KeepsAhead d e → Takes b a b e home (name_of t)
takes_passed a d e b home t passes ahead h m waits = ⊎_elim
    (λ (noted : Noted b h m). inr (inl noted))
    (λ (far : IsAhead a h m). ⊎_elim (λ (own : (h ≡ home) × (m ≡ name_of t) × ((tomb_home t) ≡ home)). inl (own.0, own.1)) (λ (still : IsAhead d h m). inr (inr (ahead h m still))) (passes h m far))
    waits

not_this : (es : List (ℕ × Place)) (a : StartKeys) (home : ℕ) (n : EntryName) (k v h : ℕ) → (Awaits (known_at (all_places es a) n.key) home n.version → ⊥) → h ≡ home → name_with k v ≡ n → Awaits (known_at (all_places es a) k) h v → ⊥
not_this es a home n k v h none at same waits =
    let key : k ≡ n.key = ap (λ (m : EntryName). m.key) same in
    let version : v ≡ n.version = ap (λ (m : EntryName). m.version) same in
    none (subst (λ (x : ℕ). Awaits (known_at (all_places es a) n.key) home x) version (subst (λ (x : ℕ). Awaits (known_at (all_places es a) n.key) x v) at (subst (λ (x : ℕ). Awaits (known_at (all_places es a) x) h v) key waits)))

pub passed_index : (es : List (ℕ × Place)) (a : StartKeys) (b c : Book) (home : ℕ) (n : EntryName) → IsIndex es a b → TakesOut b c home n → c.spare ≡ b.spare → (Awaits (known_at (all_places es a) n.key) home n.version → ⊥) → IsIndex es a c
passed_index es a b c home n is taken spare none = record {
  noted = λ k v h waits. ⊎_elim
      (λ (same : (h ≡ home) × (name_with k v ≡ n)). absurd (not_this es a home n k v h none same.0 same.1 waits))
      (λ (still : Waiting c a h (name_with k v)). still)
      (takes_noted a a b c home n taken (λ i m far. far) h (name_with k v) (is.noted k v h waits));
  spare = let s = is.spare in omega (arith, s, spare);
}

pub skipped_index : (es : List (ℕ × Place)) (a d : StartKeys) (b : Book) (home : ℕ) (t : Tombstone) → IsIndex es a b → Passes a d home t → started d ≡ started a → ((tomb_home t) ≡ home → Awaits (known_at (all_places es d) (key_of t)) home (tomb_version t) → ⊥) → IsIndex es d b
skipped_index es a d b home t is passes same none = record {
  noted = λ k v h waits. ⊎_elim
      (λ (noted : Noted b h (name_with k v)). inl noted)
      (λ (far : IsAhead a h (name_with k v)). ⊎_elim
      (λ (own : (h ≡ home) × (name_with k v ≡ name_of t) × ((tomb_home t) ≡ home)). absurd (not_this es d home (name_of t) k v h (none own.2) own.0 own.1 waits))
      (λ (still : IsAhead d h (name_with k v)). inr still)
      (passes h (name_with k v) far))
      (is.noted k v h (subst (λ (ps : List (ℕ × Place)). Awaits (known_at (es ++ ps) k) h v) same waits));
  spare = is.spare;
}

pub told_index : (es fs : List (ℕ × Place)) (a d : StartKeys) (b c : Book) (home : ℕ) (n : EntryName) → IsIndex es a b → Takes b a c d home n → c.spare ≡ b.spare → ToldAt (all_places es a) (all_places fs d) home n → all_mortal fs ≤ all_mortal es → IsIndex fs d c
told_index es fs a d b c home n is taken spare told le = record {
  noted = λ k v h waits. ⊎_elim
      (λ (e : k ≡ n.key).
      let both = told.waits v h (subst (λ (x : ℕ). Awaits (known_at (all_places fs d) x) h v) e waits) in
      let was : Awaits (known_at (all_places es a) k) h v = subst (λ (x : ℕ). Awaits (known_at (all_places es a) x) h v) (sym e) both.1 in
      still k v h was (λ same. both.0 (ap (λ (m : EntryName). m.version) same)))
      (λ (ne : k ≢ n.key). still k v h (subst (λ (o : Option KeyRecord). Awaits o h v) (told.tells.change.others k ne) waits) (λ same. ne (ap (λ (m : EntryName). m.key) same)))
      (cases_eq k n.key);
  spare = let s = is.spare in omega (arith, s, spare, le);
}
  where
    still : (k v h : ℕ) → Awaits (known_at (all_places es a) k) h v → (name_with k v ≡ n → ⊥) → Waiting c d h (name_with k v)
    still k v h was ne = ⊎_elim (λ (same : (h ≡ home) × (name_with k v ≡ n)). absurd (ne same.1)) (λ (waits : Waiting c d h (name_with k v)). waits) (taken h (name_with k v) (is.noted k v h was))

pub none_awaits : (es : List (ℕ × Place)) (a : StartKeys) (b : Book) (home : ℕ) → IsIndex es a b → ((n : EntryName) → Noted b home n → ⊥) → ((n : EntryName) → IsAhead a home n → ⊥) → (n : EntryName) → Awaits (known_at (all_places es a) n.key) home n.version → ⊥
none_awaits es a b home is none far n waits = ⊎_elim (λ (noted : Noted b home (name_with n.key n.version)). none (name_with n.key n.version) noted) (λ (ahead : IsAhead a home (name_with n.key n.version)). far (name_with n.key n.version) ahead) (is.noted n.key n.version home waits)

-- A record that is put in at the start.

pub all_noted : (k : ℕ) (b : Book) (o : Option KeyRecord) → AllByRecursion (NotedIfDead b k o) (standing_of o) → (v home : ℕ) → Awaits o home v → Noted b home (name_with k v)
all_noted k b None all v home waits = absurd (none_waits home v waits)
all_noted k b (Some r) all v home waits =
    let needs = awaits_needs r v home waits in
    found_has (NotedIfDead b k (Some r)) r.standing v (standing_with v home false) all needs.stands needs.dead

pub noted_append : (k : ℕ) (b c : Book) (o : Option KeyRecord) (xs ys : List StandingEntry) → ((h : ℕ) (n : EntryName) → Noted b h n → Noted c h n) → AllByRecursion (NotedIfDead b k o) xs → AllByRecursion (NotedIfDead c k o) ys → AllByRecursion (NotedIfDead c k o) (xs ++ ys)
noted_append k b c o [] ys kept all new = new
noted_append k b c o (x ∷ xs) ys kept all new = (λ dies. kept x.home (name_with k x.version) (all.0 dies), noted_append k b c o xs ys kept all.1 new)

pub dead_append : (o : Option KeyRecord) (xs ys : List StandingEntry) → count_dead_in o (xs ++ ys) ≡ count_dead_in o xs + count_dead_in o ys
dead_append o [] ys = omega arith
dead_append o (x ∷ xs) ys = let rest = dead_append o xs ys in omega (arith, rest)

pub dead_part : (o : Option KeyRecord) (ms : List Marked) (i : ℕ) → count_dead_in o (kept (take i ms)) ≤ count_dead_in o (kept ms)
dead_part o ms zero = omega arith
dead_part o [] (suc i) = omega arith
dead_part o (m ∷ ms) (suc i) = let rest = dead_part o ms i in elim m.gone as (λ b. count_dead_in o (cond b (kept (take i ms)) (m.entry ∷ kept (take i ms))) ≤ count_dead_in o (cond b (kept ms) (m.entry ∷ kept ms))) [ true ↦ rest | false ↦ omega (arith, rest) ]

dead_all : (o : Option KeyRecord) (ss : List StandingEntry) → count_dead_in o ss ≤ length ss
dead_all o [] = omega arith
dead_all o (x ∷ ss) = let rest = dead_all o ss in elim (dies_of o x.version) as (λ b. cond b 1 0 + count_dead_in o ss ≤ suc (length ss)) [ true ↦ omega (arith, rest) | false ↦ omega (arith, rest) ]

found_lives : (r : KeyRecord) (ss : List StandingEntry) (v : ℕ) (s : StandingEntry) → standing_at ss v ≡ Some s → is_dead r v ≡ false → count_dead_in (Some r) ss + 1 ≤ length ss
found_lives r [] v s is lives = absurd (cc is)
found_lives r (x ∷ ss) v s is lives = by (found_lives r ss v s) (x.version == v) refl is
  where
    by : (standing_at ss v ≡ Some s → is_dead r v ≡ false → count_dead_in (Some r) ss + 1 ≤ length ss) → (b : Bool) → (x.version == v) ≡ b → cond b (Some x) (standing_at ss v) ≡ Some s → count_dead_in (Some r) (x ∷ ss) + 1 ≤ length (x ∷ ss)
    by rest true same at = let e = eqb-true x.version v same in let none = cond-false {A = ℕ} (is_dead r x.version) 1 0 (ap (is_dead r) e ∙ lives) in let le = dead_all (Some r) ss in omega (arith, none, le)
    by rest false other at = let le = rest at lives in elim (is_dead r x.version) as (λ b. cond b 1 0 + count_dead_in (Some r) ss + 1 ≤ suc (length ss)) [ true ↦ omega (arith, le) | false ↦ omega (arith, le) ]

-- the one that is alive is not dead
alive_not_dead : (r : KeyRecord) → count_dead_in (Some r) r.standing + count_of (home_alive r) ≤ length r.standing
alive_not_dead r = by (is_dead r r.version) refl (standing_at r.standing r.version) refl
  where
    by : (b : Bool) → is_dead r r.version ≡ b → (o : Option StandingEntry) → standing_at r.standing r.version ≡ o → count_dead_in (Some r) r.standing + count_of (home_alive r) ≤ length r.standing
    by true dies o at = let none = ap count_of (alive_none r dies) in let le = dead_all (Some r) r.standing in omega (arith, none, le)
    by false lives None at = let none : count_of (home_alive r) ≡ 0 = ap count_of (cond-false (is_dead r r.version) None (home_in (standing_at r.standing r.version)) lives ∙ ap home_in at) in let le = dead_all (Some r) r.standing in omega (arith, none, le)
    by false lives (Some s) at = let one : count_of (home_alive r) ≡ 1 = ap count_of (alive_is r s lives at) in let le = found_lives r r.standing r.version s at lives in omega (arith, one, le)

-- For how many entries a name is noted or may have to be: all that stand, but for the entry of a value that is alive.

abbrev pub is_spared : Option KeyRecord → Bool
is_spared o = is_some (alive_at o) && is_some (live_version o)

pub names_known : (o : Option KeyRecord) → deaths_of o + lone_deaths o + cond (is_spared o) 1 0 ≤ length (standing_of o)
names_known None = omega arith
names_known (Some r) = let le = alive_not_dead r in by (is_tombstone r.body) (home_alive r) le
  where
    by : (b : Bool) (o : Option ℕ) → count_dead_in (Some r) r.standing + count_of o ≤ length r.standing → count_dead_in (Some r) r.standing + cond b (count_of o) 0 + cond (is_some o && is_some (cond b None (Some r.version))) 1 0 ≤ length r.standing
    by true None le = omega (arith, le)
    by true (Some h) le = omega (arith, le)
    by false None le = omega (arith, le)
    by false (Some h) le = omega (arith, le)

-- a record that is put into the map
pub entered_index : (es fs : List (ℕ × Place)) (a d : StartKeys) (b c : Book) (k : ℕ) (p : Place) → IsIndex es a b → Step es fs k (Some p) → StartTurns a d k None → p.room ≡ 0 → ((v h : ℕ) → Awaits p.known h v → Noted c h (name_with k v)) → KeepsNames b c → b.spare + lone_deaths p.known ≤ c.spare → IsIndex fs d c
entered_index es fs a d b c k p is step turns none noted kept le =
    let known : known_at (all_places fs d) k ≡ p.known = ap known_in (place_there fs d k p step.here) in
    let sum = step.count in
    let room = is.spare in
    record {
      noted = λ j v h waits. ⊎_elim
          (λ (e : j ≡ k). inl (subst (λ (i : ℕ). Noted c h (name_with i v)) (sym e) (noted v h (subst (λ (o : Option KeyRecord). Awaits o h v) known (subst (λ (i : ℕ). Awaits (known_at (all_places fs d) i) h v) e waits)))))
          (λ (ne : j ≢ k). still_waiting a d b c kept turns.ahead h (name_with j v) (is.noted j v h (subst (λ (o : Option KeyRecord). Awaits o h v) (ap known_in (place_kept es fs a d j (step.others j ne) (turns.others j ne))) waits)))
          (cases_eq j k);
      spare = omega (arith, sum, room, none, le);
    }

pub enters_as : (es fs : List (ℕ × Place)) (a d : StartKeys) (k : ℕ) (p : Place) (known : KeyRecord) → p ≡ record { known = Some known; room = 0 } → Step es fs k (Some p) → StartTurns a d k None → EntersAs (all_places es a) (all_places fs d) k known
enters_as es fs a d k p known is step turns =
    let here = place_there fs d k p step.here in
    let same : (j : ℕ) → j ≢ k → place_at (all_places fs d) j ≡ place_at (all_places es a) j = λ j ne. place_kept es fs a d j (step.others j ne) (turns.others j ne) in
    record {
      change = record { here = ap known_in here ∙ ap (λ (q : Place). q.known) is; others = λ j ne. ap known_in (same j ne) };
      none = ap room_in here ∙ ap (λ (q : Place). q.room) is;
      room = λ j ne. ap room_in (same j ne);
    }

-- Keys that are put into the lists of the start.

pub waiting_index : (es : List (ℕ × Place)) (a d : StartKeys) (b : Book) → KeepsWaiting es a d → IsIndex es a b → IsIndex es d b
waiting_index es a d b keeps is = record {
  noted = λ k v h waits. ⊎_elim
      (λ (was : Awaits (known_at (all_places es a) k) h v). still_waiting a d b b (λ i n noted. noted) keeps.ahead h (name_with k v) (is.noted k v h was))
      (λ (far : IsAhead d h (name_with k v)). inr far)
      (keeps.waits k v h waits);
  spare = is.spare;
}

pub stays_waiting : (es : List (ℕ × Place)) (a d : StartKeys) → Stays a d → KeepsWaiting es a d
stays_waiting es a d stays = record {
  ahead = stays.ahead;
  waits = λ k v h waits. inl (subst (λ (ps : List (ℕ × Place)). Awaits (known_at (es ++ ps) k) h v) stays.places waits);
}

pub same_stays : (a d : StartKeys) → d ≡ a → Stays a d
same_stays a d same = record { places = ap started same; ahead = λ h n far. subst (λ (x : StartKeys). IsAhead x h n) (sym same) far }

pub then_waiting : (es : List (ℕ × Place)) (a b c : StartKeys) → KeepsWaiting es a b → KeepsWaiting es b c → KeepsWaiting es a c
then_waiting es a b c one two = record {
  ahead = λ h n far. two.ahead h n (one.ahead h n far);
  waits = λ k v h waits. ⊎_elim
      (λ (was : Awaits (known_at (all_places es b) k) h v). ⊎_elim (λ (first : Awaits (known_at (all_places es a) k) h v). inl first) (λ (far : IsAhead b h (name_with k v)). inr (two.ahead h (name_with k v) far)) (one.waits k v h was))
      (λ (far : IsAhead c h (name_with k v)). inr far)
      (two.waits k v h waits);
}

-- by the last version alone

none_beside : (es : List (ℕ × Place)) (a d : StartKeys) (k : ℕ) (known : KeyRecord) → EntersLone es a d k known → place_at (twins d.older.items (lones d.lone)) k ≡ None
none_beside es a d k known is = twins_missing d.older.items (lones d.lone) k (less_missing d.older.items k (let added = is.added in subst (λ (ts : Tombs). AreLess ts.items k) (sym added.older) is.above_older))

lone_here : (es : List (ℕ × Place)) (a d : StartKeys) (k : ℕ) (known : KeyRecord) → EntersLone es a d k known → place_at (all_places es d) k ≡ Some (record { known = Some known; room = 0 })
lone_here es a d k known is = let added = is.added in place_else es d k is.new_key ∙ first_place (twins d.older.items (lones d.lone)) (lones d.lone) k None (none_beside es a d k known is) ∙ added.here

lone_kept : (es : List (ℕ × Place)) (a d : StartKeys) (k : ℕ) (p : Place) → LoneAdded a d k p → (j : ℕ) → j ≢ k → place_at (started d) j ≡ place_at (started a) j
lone_kept es a d k p added j ne =
    let same = added.others j ne in
    both_kept (twins a.older.items (lones a.lone)) (twins d.older.items (lones d.lone)) (lones a.lone) (lones d.lone) j (ap (λ (ts : Tombs). place_at (twins ts.items (lones d.lone)) j) added.older ∙ twins_kept a.older.items (lones a.lone) (lones d.lone) j (ap known_in same)) same

pub lone_enters : (es : List (ℕ × Place)) (a d : StartKeys) (k : ℕ) (known : KeyRecord) → EntersLone es a d k known → EntersAs (all_places es a) (all_places es d) k known
lone_enters es a d k known is =
    let here = lone_here es a d k known is in
    let same : (j : ℕ) → j ≢ k → place_at (all_places es d) j ≡ place_at (all_places es a) j = λ j ne. place_kept es es a d j refl (lone_kept es a d k (record { known = Some known; room = 0 }) is.added j ne) in
    record {
      change = record { here = ap known_in here; others = λ j ne. ap known_in (same j ne) };
      none = ap room_in here;
      room = λ j ne. ap room_in (same j ne);
    }

lone_far : (a d : StartKeys) (k : ℕ) (p : Place) → LoneAdded a d k p → KeepsAhead a d
lone_far a d k p added h n far = ⊎_elim
    (λ (x : LoneAhead a.lone h n). inl (added.ahead h n x))
    (λ (y : Ahead a.late h n ⊎ Ahead a.older h n). inr (⊎_elim (λ (z : Ahead a.late h n). inl (subst (λ (ts : Tombs). Ahead ts h n) (sym added.late) z)) (λ (z : Ahead a.older h n). inr (subst (λ (ts : Tombs). Ahead ts h n) (sym added.older) z)) y))
    far

pub lone_waiting : (es : List (ℕ × Place)) (a d : StartKeys) (k : ℕ) (known : KeyRecord) → EntersLone es a d k known → KeepsWaiting es a d
lone_waiting es a d k known is =
    let p : Place = record { known = Some known; room = 0 } in
    record {
      ahead = lone_far a d k p is.added;
      waits = λ j v h waits. ⊎_elim
          (λ (e : j ≡ k).
          let here : known_at (all_places es d) j ≡ Some known = ap (known_at (all_places es d)) e ∙ ap known_in (lone_here es a d k known is) in
          let added = is.added in
          inr (subst (λ (i : ℕ). IsAhead d h (name_with i v)) (sym e) (inl (added.own h v (subst (λ (o : Option KeyRecord). Awaits o h v) here waits)))))
          (λ (ne : j ≢ k). inl (subst (λ (o : Option KeyRecord). Awaits o h v) (ap known_in (place_kept es es a d j refl (lone_kept es a d k p is.added j ne))) waits))
          (cases_eq j k);
    }

-- with an older entry too

pub record EntersTwin (es : List (ℕ × Place)) (a d e : StartKeys) (k : ℕ) (r : KeyRecord) (t : Tombstone) : Type 0 where
  pub lone : EntersLone es a d k r
  pub key : key_of t ≡ k
  pub added : OlderAdded d e t
  pub entry : StandingEntry
  pub entry_is : standing_left t ≡ Some entry
  pub name : entry ≡ standing_with (tomb_version t) (tomb_home t) false
  pub below : tomb_version t < r.version

twin_known_now : (es : List (ℕ × Place)) (a d e : StartKeys) (k : ℕ) (r : KeyRecord) (t : Tombstone) (is : EntersTwin es a d e k r t) → place_at (all_places es e) k ≡ Some (record { known = Some (joined (is.entry ∷ []) r); room = 0 })
twin_known_now es a d e k r t is =
    let lone = is.lone in
    let added = is.added in
    let one = lone.added in
    let last : known_at (lones d.lone) (key_of t) ≡ Some r = ap (known_at (lones d.lone)) is.key ∙ ap known_in one.here in
    place_else es e k lone.new_key ∙ ap (place_at (started e)) (sym is.key) ∙ added.here ∙ ap (λ (o : Option KeyRecord). Some (twin_place o t)) last ∙ ap (λ (s : Option StandingEntry). Some (record { known = Some (joined (list_of s) r); room = 0 })) is.entry_is

twin_kept : (es : List (ℕ × Place)) (a d e : StartKeys) (k : ℕ) (r : KeyRecord) (t : Tombstone) → EntersTwin es a d e k r t → (j : ℕ) → j ≢ k → place_at (all_places es e) j ≡ place_at (all_places es a) j
twin_kept es a d e k r t is j ne =
    let lone = is.lone in
    let added = is.added in
    place_kept es es a e j refl (added.others j (λ same. ne (same ∙ is.key)) ∙ lone_kept es a d k (record { known = Some r; room = 0 }) lone.added j ne)

pub twin_enters : (es : List (ℕ × Place)) (a d e : StartKeys) (k : ℕ) (r : KeyRecord) (t : Tombstone) → (is : EntersTwin es a d e k r t) → EntersAs (all_places es a) (all_places es e) k (joined (is.entry ∷ []) r)
twin_enters es a d e k r t is =
    let here = twin_known_now es a d e k r t is in
    record {
      change = record { here = ap known_in here; others = λ j ne. ap known_in (twin_kept es a d e k r t is j ne) };
      none = ap room_in here;
      room = λ j ne. ap room_in (twin_kept es a d e k r t is j ne);
    }

pub twin_waiting : (es : List (ℕ × Place)) (a d e : StartKeys) (k : ℕ) (r : KeyRecord) (t : Tombstone) → OfLast (Some r) → EntersTwin es a d e k r t → KeepsWaiting es a e
twin_waiting es a d e k r t last is =
    let lone = is.lone in
    let added = is.added in
    record {
      ahead = λ h n far. added.ahead h n (lone_far a d k (record { known = Some r; room = 0 }) lone.added h n far);
      waits = λ j v h waits. ⊎_elim
          (λ (same : j ≡ k).
          let here : known_at (all_places es e) j ≡ Some (joined (is.entry ∷ []) r) = ap (known_at (all_places es e)) same ∙ ap known_in (twin_known_now es a d e k r t is) in
          let version : is.entry.version ≡ tomb_version t = ap (λ (s : StandingEntry). s.version) is.name in
          let below = is.below in
          let own = twin_waits is.entry r h v (omega (arith, version, below)) last (subst (λ (o : Option KeyRecord). Awaits o h v) here waits) in
          let entry : standing_with (tomb_version t) (tomb_home t) false ≡ standing_with v h false = sym is.name ∙ own.entry in
          let at : tomb_version t ≡ v = ap (λ (s : StandingEntry). s.version) entry in
          let home : tomb_home t ≡ h = ap (λ (s : StandingEntry). s.home) entry in
          let name : name_with (key_of t) (tomb_version t) ≡ name_with j v = λ i. name_with ((is.key ∙ sym same) i) (at i) in
          inr (subst (λ (x : ℕ). IsAhead e x (name_with j v)) home (subst (IsAhead e (tomb_home t)) name added.own)))
          (λ (ne : j ≢ k). inl (subst (λ (o : Option KeyRecord). Awaits o h v) (ap known_in (twin_kept es a d e k r t is j ne)) waits))
          (cases_eq j k);
    }

-- what was just made of an entry
pub entry_name : (t : Tombstone) (s : StandingEntry) → standing_left t ≡ Some s → s.told ≡ false → s ≡ standing_with (tomb_version t) (tomb_home t) false
entry_name t s is untold = by t.fate is
  where
    by : (f : Fate) → standing_by f (tomb_version t) (tomb_home t) ≡ Some s → s ≡ standing_with (tomb_version t) (tomb_home t) false
    by fates.Untold at = (let one : standing_with (tomb_version t) (tomb_home t) false ≡ s = cc at in sym one)
    by fates.Told at =
        let one : standing_with (tomb_version t) (tomb_home t) true ≡ s = cc at in
        let flag : true ≡ false = ap (λ (x : StandingEntry). x.told) one ∙ untold in
        absurd (cc flag)
    by fates.Gone at = absurd (cc at)
    by fates.Moved at = absurd (cc at)

-- What an entering says that may have failed.

pub lone_entering : {E : Type 0} (r : Result Bool E) (es : List (ℕ × Place)) (a d : StartKeys) (k : ℕ) (known : KeyRecord) → IfOk r (λ there. there ≡ true → EntersLone es a d k known) → IfOk r (λ there. there ≡ true → EntersAs (all_places es a) (all_places es d) k known)
lone_entering (Ok there) es a d k known enters = λ is. lone_enters es a d k known (enters is)
lone_entering (Err e) es a d k known enters = tt

pub lone_keeping : {E : Type 0} (r : Result Bool E) (es : List (ℕ × Place)) (a d : StartKeys) (k : ℕ) (known : KeyRecord) → IfOk r (λ there. there ≡ true → EntersLone es a d k known) → IfOk r (λ there. there ≡ false → d ≡ a) → OnErr r (Stays a d) → KeepsWaiting es a d
lone_keeping (Ok true) es a d k known enters same stays = lone_waiting es a d k known (enters refl)
lone_keeping (Ok false) es a d k known enters same stays = stays_waiting es a d (same_stays a d (same refl))
lone_keeping (Err e) es a d k known enters same stays = stays_waiting es a d stays

-- One record after another, from the last one on.

pub first_of_left : (all left less done : List Record) (r : Record) → all ≡ left ++ done → left ≡ less ++ r ∷ [] → all ≡ less ++ r ∷ done
first_of_left all left less done r split pop = split ∙ ap (λ (xs : List Record). xs ++ done) pop ∙ append_assoc less (r ∷ []) done

pub none_above_in : (all less done : List Record) (r : Record) → AllByRecursion HasNoneAbove all → all ≡ less ++ r ∷ done → HasNoneAbove r
none_above_in all less done r each split = back less (subst (AllByRecursion HasNoneAbove) split each)
  where
    back : (xs : List Record) → AllByRecursion HasNoneAbove (xs ++ r ∷ done) → HasNoneAbove r
    back [] is = is.0
    back (x ∷ xs) is = back xs is.1

pub entering_more : (all left less : List Record) (es fs : List (ℕ × Place)) (r : Record) → Entering all left es → left ≡ less ++ r ∷ [] → EntersAs es fs r.key (opened r) → Entering all less fs
entering_more all left less es fs r is pop entered = record {
  done = r ∷ is.done;
  split = first_of_left all left less is.done r is.split pop;
  known = λ k. ⊎_elim
      (λ (e : r.key ≡ k). ap (known_at fs) (sym e) ∙ entered.change.here ∙ sym (cond-true (r.key == k) (Some (opened r)) (opened_in is.done k) (eq-eqb r.key k e)))
      (λ (ne : r.key ≢ k). entered.change.others k (λ e. ne (sym e)) ∙ is.known k ∙ sym (cond-false (r.key == k) (Some (opened r)) (opened_in is.done k) (ne_eqb r.key k ne)))
      (cases_eq r.key k);
  room = λ k. ⊎_elim (λ (e : r.key ≡ k). ap (room_at fs) (sym e) ∙ entered.none) (λ (ne : r.key ≢ k). entered.room k (λ e. ne (sym e)) ∙ is.room k) (cases_eq r.key k);
}

pub entered_all : (all left : List Record) (es : List (ℕ × Place)) → Entering all left es → left ≡ [] → (k : ℕ) → known_at es k ≡ opened_in all k
entered_all all left es is none k = is.known k ∙ ap (λ (rs : List Record). opened_in rs k) (sym (is.split ∙ ap (λ (xs : List Record). xs ++ is.done) none))
