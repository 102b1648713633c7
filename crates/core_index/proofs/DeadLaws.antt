-- Which entries die by a change of a key's record.
use Rattle.std.proofs.Common.{◌≡◌, ◌≢◌, ◌⊎◌, inl, inr, ⊎_elim, ℕ, ◌+◌, ◌≤◌, ◌<◌, ◌==◌, Bool, true, false, ◌&&◌, ◌||◌, List, [], ◌∷◌, ◌++◌, Option, Some, None, refl, sym, ◌∙◌, ap, arith}
use Rattle.std.proofs.lemmas.Bool.{eq-eqb, lt-ltb, le-ltb, cond-true, cond-false, cases_eq, cases_lt}
use Rattle.log_entry.specs.declared.entry.Body.{Body}
use Rattle.core_index.specs.declared.types.Standee.{Standee}
use Rattle.core_index.specs.declared.types.StandingEntry.{StandingEntry}
use Rattle.core_index.specs.Records.{KeyRecord, standing_with, standing_at, is_tombstone, stands_alone, is_dead, Awaits, last_of}
use Rattle.core_index.specs.Slots.{LastChange, record_with, known_with, AreBelow, home_in, home_alive, alive_at, standee_with, OnlyDead}
use Rattle.core_index.proofs.StandingLaws.{found_has, none_above, at_more, at_added, alone_none}

-- the last version is dead exactly where it is a delete that stands alone
pub dead_last : (r : KeyRecord) → is_dead r r.version ≡ (is_tombstone r.body && stands_alone r.standing r.version)
dead_last r = ap (λ (b : Bool). b || ((r.version == r.version) && (is_tombstone r.body && stands_alone r.standing r.version))) (le-ltb r.version r.version (omega arith))
    ∙ ap (λ (b : Bool). b && (is_tombstone r.body && stands_alone r.standing r.version)) (eq-eqb r.version r.version refl)

pub dead_older : (r : KeyRecord) (v : ℕ) → v < r.version → is_dead r v ≡ true
dead_older r v lt = ap (λ (b : Bool). b || ((v == r.version) && (is_tombstone r.body && stands_alone r.standing v))) (lt-ltb v r.version lt)

-- a version that is not above the last one and is not dead is the last one
pub last_if_not_dead : (r : KeyRecord) (v : ℕ) → v ≤ r.version → is_dead r v ≡ false → v ≡ r.version
last_if_not_dead r v le is = ⊎_elim (λ (lt : v < r.version). let d = dead_older r v lt in absurd (cc (d, is))) (λ (ge : r.version ≤ v). omega (arith, le, ge)) (cases_lt v r.version)

and_back : (a b : Bool) → (a && b) ≡ true → b ≡ true
and_back true b is = is
and_back false b is = absurd (cc is)

and_front : (a b : Bool) → (a && b) ≡ true → a ≡ true
and_front true b is = refl
and_front false b is = absurd (cc is)

-- a last version that is dead stands alone
pub dead_alone : (r : KeyRecord) → is_dead r r.version ≡ true → stands_alone r.standing r.version ≡ true
dead_alone r is = and_back (is_tombstone r.body) (stands_alone r.standing r.version) (sym (dead_last r) ∙ is)

-- the last version's entry, where it stands and is not dead
pub alive_is : (r : KeyRecord) (s : StandingEntry) → is_dead r r.version ≡ false → standing_at r.standing r.version ≡ Some s → home_alive r ≡ Some s.home
alive_is r s lives is = cond-false (is_dead r r.version) None (home_in (standing_at r.standing r.version)) lives ∙ ap home_in is

pub alive_none : (r : KeyRecord) → is_dead r r.version ≡ true → home_alive r ≡ None
alive_none r dies = cond-true (is_dead r r.version) None (home_in (standing_at r.standing r.version)) dies

-- an entry that stands and was not told waits already, or is the one that is alive
pub awaits_or_alive : (h : LastChange) (ss : List StandingEntry) (v home : ℕ) → AreBelow (Some h) ss → standing_at ss v ≡ Some (standing_with v home false) → Awaits (Some (record_with h ss)) home v ⊎ ((v ≡ h.version) × (home_alive (record_with h ss) ≡ Some home))
awaits_or_alive h ss v home below is = by (is_dead (record_with h ss) v) refl
  where
    by : (b : Bool) → is_dead (record_with h ss) v ≡ b → Awaits (Some (record_with h ss)) home v ⊎ ((v ≡ h.version) × (home_alive (record_with h ss) ≡ Some home))
    by true dies = inl (record { found = record_with h ss; has = refl; stands = is; dead = dies })
    by false lives =
        let le : v ≤ h.version = found_has (λ (s : StandingEntry). s.version ≤ h.version) ss v (standing_with v home false) below is in
        let e = last_if_not_dead (record_with h ss) v le lives in
        inr (e, alive_is (record_with h ss) (standing_with v home false) (ap (is_dead (record_with h ss)) (sym e) ∙ lives) (ap (standing_at ss) (sym e) ∙ is))

-- A finished change: the entry before it dies, or at once its own.
pub settled_dead : (o : Option LastChange) (ss : List StandingEntry) (b : Body) (n home : ℕ) (dead : Option Standee) → AreBelow o ss → n ≡ last_of (known_with o ss) + 1
    → (alive_at (Some (record { version = n; body = b; standing = ss ++ standing_with n home false ∷ [] })) ≡ None → dead ≡ Some (standee_with n home))
    → ((now was : ℕ) → alive_at (Some (record { version = n; body = b; standing = ss ++ standing_with n home false ∷ [] })) ≡ Some now → alive_at (known_with o ss) ≡ Some was → dead ≡ Some (standee_with (last_of (known_with o ss)) was))
    → OnlyDead (known_with o ss) (Some (record { version = n; body = b; standing = ss ++ standing_with n home false ∷ [] })) dead
settled_dead o ss b n home dead below next own before = λ v h w.
    let r : KeyRecord = record { version = n; body = b; standing = ss ++ standing_with n home false ∷ [] } in
    let e : r ≡ w.found = let has = w.has in cc has in
    let stands : standing_at r.standing v ≡ Some (standing_with v h false) = ap (λ (x : KeyRecord). standing_at x.standing v) e ∙ w.stands in
    let dies : is_dead r v ≡ true = ap (λ (x : KeyRecord). is_dead x v) e ∙ w.dead in
    ⊎_elim (λ (same : v ≡ n). own_one o below next own v h stands dies same) (λ (ne : v ≢ n). earlier o below next before v h stands ne) (cases_eq v n)
  where
    own_one : (o : Option LastChange) → AreBelow o ss → n ≡ last_of (known_with o ss) + 1 → (alive_at (Some (record { version = n; body = b; standing = ss ++ standing_with n home false ∷ [] })) ≡ None → dead ≡ Some (standee_with n home)) → (v h : ℕ)
        → standing_at (ss ++ standing_with n home false ∷ []) v ≡ Some (standing_with v h false) → is_dead (record { version = n; body = b; standing = ss ++ standing_with n home false ∷ [] }) v ≡ true → v ≡ n
        → Awaits (known_with o ss) h v ⊎ (dead ≡ Some (standee_with v h))
    own_one o below next own v h stands dies same =
        let r : KeyRecord = record { version = n; body = b; standing = ss ++ standing_with n home false ∷ [] } in
        let new : standing_at r.standing n ≡ Some (standing_with n home false) = at_added ss (standing_with n home false) (fresh o below next) in
        let at : standing_at r.standing n ≡ Some (standing_with v h false) = ap (standing_at r.standing) (sym same) ∙ stands in
        let some : Some home ≡ Some h = ap home_in (sym new ∙ at) in
        let homes : home ≡ h = cc some in
        let is : dead ≡ Some (standee_with n home) = own (alive_none r (ap (is_dead r) (sym same) ∙ dies)) in
        inr (is ∙ cc (homes, same))
      where
        fresh : (o : Option LastChange) → AreBelow o ss → n ≡ last_of (known_with o ss) + 1 → standing_at ss n ≡ None
        fresh None none is = ap (λ (xs : List StandingEntry). standing_at xs n) none
        fresh (Some h) all is = none_above ss n h.version all (omega (arith, is))

    earlier : (o : Option LastChange) → AreBelow o ss → n ≡ last_of (known_with o ss) + 1 → ((now was : ℕ) → alive_at (Some (record { version = n; body = b; standing = ss ++ standing_with n home false ∷ [] })) ≡ Some now → alive_at (known_with o ss) ≡ Some was → dead ≡ Some (standee_with (last_of (known_with o ss)) was)) → (v h : ℕ)
        → standing_at (ss ++ standing_with n home false ∷ []) v ≡ Some (standing_with v h false) → v ≢ n → Awaits (known_with o ss) h v ⊎ (dead ≡ Some (standee_with v h))
    earlier None below next before v h stands ne =
        let was : standing_at ss v ≡ Some (standing_with v h false) = sym (at_more ss (standing_with n home false) v (λ e. ne (sym e))) ∙ stands in
        let none : standing_at ss v ≡ None = ap (λ (xs : List StandingEntry). standing_at xs v) below in
        absurd (cc (was, none))
    earlier (Some o) below next before v h stands ne =
        let r : KeyRecord = record { version = n; body = b; standing = ss ++ standing_with n home false ∷ [] } in
        let was : standing_at ss v ≡ Some (standing_with v h false) = sym (at_more ss (standing_with n home false) v (λ e. ne (sym e))) ∙ stands in
        ⊎_elim (λ (waits : Awaits (Some (record_with o ss)) h v). inl waits)
        (λ (alive : (v ≡ o.version) × (home_alive (record_with o ss) ≡ Some h)).
        let last = alive.0 in
        inr (before home h (now v h stands ne (none_above ss n o.version below (omega (arith, next)))) alive.1 ∙ cc last))
        (awaits_or_alive o ss v h below was)
      where
        now : (v h : ℕ) → standing_at (ss ++ standing_with n home false ∷ []) v ≡ Some (standing_with v h false) → v ≢ n → standing_at ss n ≡ None → home_alive (record { version = n; body = b; standing = ss ++ standing_with n home false ∷ [] }) ≡ Some home
        now v h stands ne fresh = by (is_dead (record { version = n; body = b; standing = ss ++ standing_with n home false ∷ [] }) n) refl
          where
            by : (d : Bool) → is_dead (record { version = n; body = b; standing = ss ++ standing_with n home false ∷ [] }) n ≡ d → home_alive (record { version = n; body = b; standing = ss ++ standing_with n home false ∷ [] }) ≡ Some home
            by true dies =
                let r : KeyRecord = record { version = n; body = b; standing = ss ++ standing_with n home false ∷ [] } in
                let none = alone_none r.standing n v ne (dead_alone r dies) in
                absurd (cc (none, stands))
            by false lives =
                let r : KeyRecord = record { version = n; body = b; standing = ss ++ standing_with n home false ∷ [] } in
                alive_is r (standing_with n home false) lives (at_added ss (standing_with n home false) (fresh))
