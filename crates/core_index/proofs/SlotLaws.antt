-- What a key's calls make of its record.
use Rattle.std.proofs.Common.{◌≡◌, ◌≢◌, inl, inr, ⊎_elim, ℕ, ◌+◌, ◌≤◌, ◌==◌, nat_lt, Bool, true, false, cond, ◌&&◌, ◌||◌, List, [], ◌∷◌, ◌++◌, Option, Some, None, refl, sym, ◌∙◌, ap, subst, arith}
use Rattle.std.proofs.lemmas.Bool.{ne_eqb, cond-true, cond-false, cases_eq, eq-eqb}
use Rattle.log_entry.specs.declared.entry.Body.{Body}
use Rattle.core_index.specs.declared.types.Standee.{Standee}
use Rattle.core_index.specs.declared.types.StandingEntry.{StandingEntry}
use Rattle.core_index.specs.Records.{KeyRecord, standing_with, standing_at, is_tombstone, stands_alone, is_dead, Awaits, last_of, with_told, told_in, others, dies_of, standing_of}
use Rattle.core_index.specs.Slots.{LastChange, record_with, known_with, AreBelow, home_in, home_alive, alive_at, count_of, lone_deaths, standee_with, count_dead, dead_by, died, OnlyDead, TellsOne, IsSlot}
use Rattle.core_index.specs.Marks.{Marks}
use Rattle.core_index.proofs.StandingLaws.{found_version, at_told, at_told_other, alone_told, below_told, at_without, at_without_other, alone_without, below_without}
use Rattle.core_index.proofs.DeadLaws.{dead_last, dead_alone, alive_is, alive_none, awaits_or_alive, settled_dead}

same_standing : (s : StandingEntry) (v home : ℕ) → s.version ≡ v → s.home ≡ home → s.told ≡ false → s ≡ standing_with v home false
same_standing s v home a b c = λ i. standing_with (a i) (b i) (c i)

pub awaits_here : (r : KeyRecord) (v home : ℕ) (s : StandingEntry) → standing_at r.standing v ≡ Some s → s.home ≡ home → s.told ≡ false → is_dead r v ≡ true → Awaits (Some r) home v
awaits_here r v home s at same new dies = record { found = r; has = refl; stands = at ∙ ap (λ (x : StandingEntry). Some x) (same_standing s v home (found_version r.standing v s at) same new); dead = dies }

-- the same of the record itself
pub record Needs (r : KeyRecord) (v home : ℕ) : Type 0 where
  pub stands : standing_at r.standing v ≡ Some (standing_with v home false)
  pub dead : is_dead r v ≡ true

pub awaits_needs : (r : KeyRecord) (v home : ℕ) → Awaits (Some r) home v → Needs r v home
awaits_needs r v home w =
    let e : r ≡ w.found = let has = w.has in cc has in
    record { stands = ap (λ (x : KeyRecord). standing_at x.standing v) e ∙ w.stands; dead = ap (λ (x : KeyRecord). is_dead x v) e ∙ w.dead }

-- Telling keeps who else waits, and who is alive.

dead_told : (r : KeyRecord) (v w : ℕ) → is_dead (told_in v r) w ≡ is_dead r w
dead_told r v w = ap (λ (b : Bool). nat_lt w r.version || ((w == r.version) && (is_tombstone r.body && b))) (alone_told r.standing v w)

pub tells_one : (r : KeyRecord) (room v home : ℕ) → Awaits (Some r) home v → TellsOne (record { known = Some r; room = room }) (record { known = Some (told_in v r); room = room }) home v
tells_one r room v home waits = record {
  waited = waits;
  told = refl;
  others = λ w h after.
      let now = awaits_needs (told_in v r) w h after in
      let was = awaits_needs r v home waits in
      let apart : w ≢ v = λ e.
      let a : standing_at (with_told r.standing v) v ≡ Some (standing_with v home true) = at_told r.standing v (standing_with v home false) was.stands in
      let b : standing_at (with_told r.standing v) v ≡ Some (standing_with w h false) = ap (standing_at (with_told r.standing v)) (sym e) ∙ now.stands in
      let c : Some true ≡ Some false = ap told_flag (sym a ∙ b) in
      cc c in
      (apart, record { found = r; has = refl; stands = sym (at_told_other r.standing v w apart) ∙ now.stands; dead = sym (dead_told r v w) ∙ now.dead });
}
  where
    told_flag : Option StandingEntry → Option Bool
    told_flag None = None
    told_flag (Some s) = Some s.told

pub alive_told : (r : KeyRecord) (v : ℕ) → home_alive (told_in v r) ≡ home_alive r
alive_told r v =
    ap (λ (b : Bool). cond b None (home_in (standing_at (with_told r.standing v) r.version))) (dead_told r v r.version)
    ∙ ap (λ (o : Option ℕ). cond (is_dead r r.version) None o) (homes r.standing v r.version)
  where
    homes : (ss : List StandingEntry) (v w : ℕ) → home_in (standing_at (with_told ss v) w) ≡ home_in (standing_at ss w)
    homes [] v w = refl
    homes (s ∷ ss) v w = by (homes ss v w) (s.version == v)
      where
        by : home_in (standing_at (with_told ss v) w) ≡ home_in (standing_at ss w) → (b : Bool) → home_in (standing_at (cond b (standing_with s.version s.home true ∷ ss) (s ∷ with_told ss v)) w) ≡ home_in (standing_at (s ∷ ss) w)
        by rest true = elim (s.version == w) as (λ c. home_in (cond c (Some (standing_with s.version s.home true)) (standing_at ss w)) ≡ home_in (cond c (Some s) (standing_at ss w))) [ true ↦ refl | false ↦ refl ]
        by rest false = elim (s.version == w) as (λ c. home_in (cond c (Some s) (standing_at (with_told ss v) w)) ≡ home_in (cond c (Some s) (standing_at ss w))) [ true ↦ refl | false ↦ rest ]

-- A version that is gone.

pub gone_dead : (h : LastChange) (ss : List StandingEntry) (v : ℕ) → AreBelow (Some h) ss → OnlyDead (Some (record_with h ss)) (Some (record_with h (others v ss))) (died v h.version (home_alive (record_with h ss)) (home_alive (record_with h (others v ss))))
gone_dead h ss v below = λ w home after.
    let old = record_with h ss in
    let new = record_with h (others v ss) in
    let now = awaits_needs new w home after in
    let apart : w ≢ v = λ e. let none = at_without ss v in let some : standing_at (others v ss) v ≡ Some (standing_with w home false) = ap (standing_at (others v ss)) (sym e) ∙ now.stands in cc (none, some) in
    let was : standing_at ss w ≡ Some (standing_with w home false) = sym (at_without_other ss v w apart) ∙ now.stands in
    ⊎_elim (λ (waits : Awaits (Some old) home w). inl waits)
    (λ (alive : (w ≡ h.version) × (home_alive old ≡ Some home)).
    let dies : home_alive new ≡ None = alive_none new (ap (is_dead new) (sym alive.0) ∙ now.dead) in
    let isnt : (v == h.version) ≡ false = ne_eqb v h.version (λ e. apart (alive.0 ∙ sym e)) in
    let last = alive.0 in
    inr (ap (λ (o : Option ℕ). died v h.version o (home_alive new)) alive.1 ∙ ap (died v h.version (Some home)) dies ∙ cond-false (v == h.version) None (Some (standee_with h.version home)) isnt ∙ ap (λ (n : ℕ). Some (standee_with n home)) (sym last)))
    (awaits_or_alive h ss w home below was)

-- who is alive then was alive before
pub alive_without : (h : LastChange) (ss : List StandingEntry) (v home : ℕ) → home_alive (record_with h (others v ss)) ≡ Some home → home_alive (record_with h ss) ≡ Some home
alive_without h ss v home is = by (is_dead (record_with h (others v ss)) h.version) refl
  where
    by : (b : Bool) → is_dead (record_with h (others v ss)) h.version ≡ b → home_alive (record_with h ss) ≡ Some home
    by true dies = let none = alive_none (record_with h (others v ss)) dies in absurd (cc (none, is))
    by false lives = stood (standing_at (others v ss) h.version) refl
      where
        stood : (o : Option StandingEntry) → standing_at (others v ss) h.version ≡ o → home_alive (record_with h ss) ≡ Some home
        stood None at =
            let none : home_alive (record_with h (others v ss)) ≡ None = cond-false (is_dead (record_with h (others v ss)) h.version) None (home_in (standing_at (others v ss) h.version)) lives ∙ ap home_in at in
            absurd (cc (none, is))
        stood (Some s) at =
            let homes : home_alive (record_with h (others v ss)) ≡ Some s.home = alive_is (record_with h (others v ss)) s lives at in
            let apart : h.version ≢ v = λ e. let none = at_without ss v in let some : standing_at (others v ss) v ≡ Some s = ap (standing_at (others v ss)) (sym e) ∙ at in cc (none, some) in
            let was : standing_at ss h.version ≡ Some s = sym (at_without_other ss v h.version apart) ∙ at in
            alive_is (record_with h ss) s (still (is_dead (record_with h ss) h.version) refl) was ∙ sym homes ∙ is
          where
            still : (b : Bool) → is_dead (record_with h ss) h.version ≡ b → is_dead (record_with h ss) h.version ≡ false
            still false lived = lived
            still true died_before =
                let alone = alone_without ss v h.version (dead_alone (record_with h ss) died_before) in
                let tomb : is_tombstone h.body ≡ true = front (is_tombstone h.body) (stands_alone ss h.version) (sym (dead_last (record_with h ss)) ∙ died_before) in
                let now : is_dead (record_with h (others v ss)) h.version ≡ true = dead_last (record_with h (others v ss)) ∙ ap (λ (b : Bool). b && stands_alone (others v ss) h.version) tomb ∙ alone in
                absurd (cc (now, lives))
              where
                front : (a b : Bool) → (a && b) ≡ true → a ≡ true
                front true b is = refl
                front false b is = absurd (cc is)

gone_mortal : (h : LastChange) (ss : List StandingEntry) (v : ℕ) → count_of (home_alive (record_with h (others v ss))) + count_dead (died v h.version (home_alive (record_with h ss)) (home_alive (record_with h (others v ss)))) ≤ count_of (home_alive (record_with h ss))
gone_mortal h ss v = by (home_alive (record_with h (others v ss))) refl (home_alive (record_with h ss)) refl
  where
    by : (new : Option ℕ) → home_alive (record_with h (others v ss)) ≡ new → (old : Option ℕ) → home_alive (record_with h ss) ≡ old → count_of new + count_dead (died v h.version old new) ≤ count_of old
    by None now None was = omega arith
    by None now (Some home) was = elim (v == h.version) as (λ b. 0 + count_dead (cond b None (Some (standee_with h.version home))) ≤ 1) [ true ↦ omega arith | false ↦ omega arith ]
    by (Some home) now None was = let e = alive_without h ss v home now in absurd (cc (e, was))
    by (Some home) now (Some g) was = omega arith

-- The entry of a value does not die by another one that is gone.

value_alive : (r : KeyRecord) → is_tombstone r.body ≡ false → home_alive r ≡ home_in (standing_at r.standing r.version)
value_alive r value = cond-false (is_dead r r.version) None (home_in (standing_at r.standing r.version)) (dead_last r ∙ ap (λ (b : Bool). b && stands_alone r.standing r.version) value)

own_gone : (v last : ℕ) (old new : Option ℕ) → (v == last) ≡ true → count_dead (died v last old new) ≡ 0
own_gone v last None new same = refl
own_gone v last (Some h) None same = ap count_dead (cond-true (v == last) None (Some (standee_with last h)) same)
own_gone v last (Some h) (Some g) same = refl

still_there : (v last : ℕ) (old new : Option ℕ) → new ≡ old → count_dead (died v last old new) ≡ 0
still_there v last old new same = ap (λ (o : Option ℕ). count_dead (died v last old o)) same ∙ by old
  where
    by : (o : Option ℕ) → count_dead (died v last o o) ≡ 0
    by None = refl
    by (Some h) = refl

value_stays : (h : LastChange) (ss : List StandingEntry) (v : ℕ) → is_tombstone h.body ≡ false → count_dead (died v h.version (home_alive (record_with h ss)) (home_alive (record_with h (others v ss)))) ≡ 0
value_stays h ss v value = ⊎_elim
    (λ (same : v ≡ h.version). own_gone v h.version (home_alive (record_with h ss)) (home_alive (record_with h (others v ss))) (eq-eqb v h.version same))
    (λ (ne : v ≢ h.version). still_there v h.version (home_alive (record_with h ss)) (home_alive (record_with h (others v ss))) (value_alive (record_with h (others v ss)) value ∙ ap home_in (at_without_other ss v h.version (λ e. ne (sym e))) ∙ sym (value_alive (record_with h ss) value)))
    (cases_eq v h.version)

pub gone_lone : (h : LastChange) (ss : List StandingEntry) (v : ℕ) → lone_deaths (Some (record_with h (others v ss))) + count_dead (died v h.version (home_alive (record_with h ss)) (home_alive (record_with h (others v ss)))) ≤ lone_deaths (Some (record_with h ss))
gone_lone h ss v = by (is_tombstone h.body) refl
  where
    by : (b : Bool) → is_tombstone h.body ≡ b → cond b (count_of (home_alive (record_with h (others v ss)))) 0 + count_dead (died v h.version (home_alive (record_with h ss)) (home_alive (record_with h (others v ss)))) ≤ cond b (count_of (home_alive (record_with h ss))) 0
    by true is = gone_mortal h ss v
    by false is = let none = value_stays h ss v is in omega (arith, none)

-- What dies by a change, and what may die behind it without one.

pub one_lone : (o : Option KeyRecord) → lone_deaths o ≤ 1
one_lone None = omega arith
one_lone (Some r) = by (is_tombstone r.body) (home_alive r)
  where
    by : (b : Bool) (o : Option ℕ) → cond b (count_of o) 0 ≤ 1
    by false o = omega arith
    by true None = omega arith
    by true (Some h) = omega arith

pub one_dead : (d : Option Standee) → count_dead d ≤ 1
one_dead None = omega arith
one_dead (Some s) = omega arith

-- The same where a key may have no record.

pub none_waits : (home v : ℕ) → Awaits None home v → ⊥
none_waits home v w = let has = w.has in cc has

pub gone_only : (o : Option LastChange) (ss : List StandingEntry) (v : ℕ) → AreBelow o ss → OnlyDead (known_with o ss) (known_with o (others v ss)) (died v (last_of (known_with o ss)) (alive_at (known_with o ss)) (alive_at (known_with o (others v ss))))
gone_only None ss v below = λ w home after. absurd (none_waits home w after)
gone_only (Some h) ss v below = gone_dead h ss v below

pub gone_count : (o : Option LastChange) (ss : List StandingEntry) (v : ℕ) → lone_deaths (known_with o (others v ss)) + count_dead (died v (last_of (known_with o ss)) (alive_at (known_with o ss)) (alive_at (known_with o (others v ss)))) ≤ lone_deaths (known_with o ss)
gone_count None ss v = omega arith
gone_count (Some h) ss v = gone_lone h ss v

last_same : (o : Option LastChange) (xs ys : List StandingEntry) → last_of (known_with o xs) ≡ last_of (known_with o ys)
last_same None xs ys = refl
last_same (Some h) xs ys = refl

-- What a slot's fields say of what is known.

pub standing_known : (o : Option LastChange) (ss : List StandingEntry) → AreBelow o ss → standing_of (known_with o ss) ≡ ss
standing_known None ss none = sym none
standing_known (Some h) ss all = refl

-- whether an entry that is found waits to be told
pub waits_found : (o : Option LastChange) (ss : List StandingEntry) (v home : ℕ) (s : StandingEntry) → AreBelow o ss → standing_at ss v ≡ Some s → s.home ≡ home → s.told ≡ false → dies_of (known_with o ss) v ≡ true → Awaits (known_with o ss) home v
waits_found None ss v home s none at same new dies = let empty : standing_at ss v ≡ None = ap (λ (xs : List StandingEntry). standing_at xs v) none in absurd (cc (empty, at))
waits_found (Some h) ss v home s all at same new dies = awaits_here (record_with h ss) v home s at same new dies

pub waiting_dies : (o : Option LastChange) (ss : List StandingEntry) (v home : ℕ) → Awaits (known_with o ss) home v → dies_of (known_with o ss) v ≡ true
waiting_dies None ss v home waits = absurd (none_waits home v waits)
waiting_dies (Some h) ss v home waits = (awaits_needs (record_with h ss) v home waits).dead

-- The fields of a slot whose entries are others by now.

pub kept_slot : (o : Option LastChange) (m n : Marks) → IsSlot o m → AreBelow o n.items → n.top ≤ m.top → IsSlot o n
kept_slot o m n is below top = record { below = below; top = let t = is.top in let same = last_same o m.items n.items in omega (arith, t, top, same) }

pub gone_slot : (o : Option LastChange) (m n : Marks) (v : ℕ) → IsSlot o m → n.items ≡ others v m.items → n.top ≤ m.top → IsSlot o n
gone_slot o m n v is gone top = kept_slot o m n is (subst (AreBelow o) (sym gone) (by o is.below)) top
  where
    by : (o : Option LastChange) → AreBelow o m.items → AreBelow o (others v m.items)
    by None none = ap (others v) none
    by (Some h) all = below_without m.items v h.version all

pub told_slot : (o : Option LastChange) (m n : Marks) (v : ℕ) → IsSlot o m → n.items ≡ with_told m.items v → n.top ≡ m.top → IsSlot o n
told_slot o m n v is now top = kept_slot o m n is (subst (AreBelow o) (sym now) (by o is.below)) (omega (arith, top))
  where
    by : (o : Option LastChange) → AreBelow o m.items → AreBelow o (with_told m.items v)
    by None none = ap (λ (xs : List StandingEntry). with_told xs v) none
    by (Some h) all = below_told m.items v h.version all

pub told_one : (o : Option LastChange) (ss ts : List StandingEntry) (room v home : ℕ) → ts ≡ with_told ss v → Awaits (known_with o ss) home v → TellsOne (record { known = known_with o ss; room = room }) (record { known = known_with o ts; room = room }) home v
told_one None ss ts room v home now waits = absurd (none_waits home v waits)
told_one (Some h) ss ts room v home now waits = subst (λ (xs : List StandingEntry). TellsOne (record { known = Some (record_with h ss); room = room }) (record { known = Some (record_with h xs); room = room }) home v) (sym now) (tells_one (record_with h ss) room v home waits)

pub told_alive : (o : Option LastChange) (ss ts : List StandingEntry) (v : ℕ) → ts ≡ with_told ss v → alive_at (known_with o ts) ≡ alive_at (known_with o ss)
told_alive None ss ts v now = refl
told_alive (Some h) ss ts v now = ap (λ (xs : List StandingEntry). home_alive (record_with h xs)) now ∙ alive_told (record_with h ss) v

pub told_lone : (o : Option LastChange) (ss ts : List StandingEntry) (v : ℕ) → ts ≡ with_told ss v → lone_deaths (known_with o ts) ≡ lone_deaths (known_with o ss)
told_lone None ss ts v now = refl
told_lone (Some h) ss ts v now = ap (λ (a : Option ℕ). cond (is_tombstone h.body) (count_of a) 0) (told_alive (Some h) ss ts v now)

pub settled_only : (o : Option LastChange) (ss : List StandingEntry) (b : Body) (n home : ℕ) → AreBelow o ss → n ≡ last_of (known_with o ss) + 1
    → OnlyDead (known_with o ss) (Some (record { version = n; body = b; standing = ss ++ standing_with n home false ∷ [] }))
    (dead_by n home (last_of (known_with o ss)) (alive_at (known_with o ss)) (alive_at (Some (record { version = n; body = b; standing = ss ++ standing_with n home false ∷ [] }))))
settled_only o ss b n home below next =
    let new : KeyRecord = record { version = n; body = b; standing = ss ++ standing_with n home false ∷ [] } in
    settled_dead o ss b n home (dead_by n home (last_of (known_with o ss)) (alive_at (known_with o ss)) (home_alive new)) below next
    (λ none. ap (dead_by n home (last_of (known_with o ss)) (alive_at (known_with o ss))) none)
    (λ now was is had. ap (dead_by n home (last_of (known_with o ss)) (alive_at (known_with o ss))) is ∙ ap (λ (p : Option ℕ). dead_by n home (last_of (known_with o ss)) p (Some now)) had)
