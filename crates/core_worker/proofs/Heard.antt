-- Dead entries of a core's own log are told one after another, until none is left.
use Rattle.std.proofs.Common.{◌≡◌, ◌⊎◌, inl, inr, ℕ, ◌==◌, ◌&&◌, ◌||◌, nat_lt, Bool, true, false, cond, List, Option, Some, None, option_map, refl, sym, ◌∙◌, ap, subst}
use Rattle.std.specs.Prelude.{is_some, IfSome, IfNone}
use Rattle.std.proofs.lemmas.Bool.{eqb-true, eq-eqb, and_parts, and_from, cases_eq}
use Rattle.log_entry.specs.declared.entry.EntryName.{EntryName}
use Rattle.core_index.specs.declared.types.StandingEntry.{StandingEntry}
use Rattle.core_index.specs.Index.{known_at, SameRoom, Tells}
use Rattle.core_index.specs.Records.{KeyRecord, Awaits, is_tombstone, is_dead, standing_at, standing_of, standing_with, with_told, told_in}
use Rattle.core_index.specs.Slots.{Place}
use Rattle.core_index.proofs.Clients.{found_version, at_told, at_told_other, alone_told}
use Rattle.core_worker.specs.Hearing.{is_dead_by, heard_at, last_change, HearsAll}

-- So far the dead entries of some names were told, all of this home, and nothing else changed.
pub record Hears (home : ℕ) (old new : List (ℕ × Place)) : Type 0 where
  pub changes : (k : ℕ) → option_map last_change (known_at new k) ≡ option_map last_change (known_at old k)
  pub dead : (k n : ℕ) → is_dead_by (known_at new k) n ≡ is_dead_by (known_at old k) n
  pub each : (k n : ℕ) → (standing_at (standing_of (known_at new k)) n ≡ standing_at (standing_of (known_at old k)) n)
      ⊎ ((standing_at (standing_of (known_at old k)) n ≡ Some (standing_with n home false)) × (is_dead_by (known_at old k) n ≡ true) × (standing_at (standing_of (known_at new k)) n ≡ Some (standing_with n home true)))
  pub room : SameRoom old new

pub hears_none : (home : ℕ) (es : List (ℕ × Place)) → Hears home es es
hears_none home es = record { changes = λ k. refl; dead = λ k n. refl; each = λ k n. inl refl; room = λ k. refl }

pub dead_told : (o : Option KeyRecord) (v n : ℕ) → is_dead_by (option_map (told_in v) o) n ≡ is_dead_by o n
dead_told None v n = refl
dead_told (Some r) v n = ap (λ (b : Bool). nat_lt n r.version || ((n == r.version) && (is_tombstone r.body && b))) (alone_told r.standing v n)

changes_told : (o : Option KeyRecord) (v : ℕ) → option_map last_change (option_map (told_in v) o) ≡ option_map last_change o
changes_told None v = refl
changes_told (Some r) v = refl

pub standing_told : (o : Option KeyRecord) (v : ℕ) → standing_of (option_map (told_in v) o) ≡ with_told (standing_of o) v
standing_told None v = refl
standing_told (Some r) v = refl

-- an entry as it was, or one that was told since
abbrev Was : ℕ → Option StandingEntry → Bool → ℕ → Option StandingEntry → Type 0
Was home before dead n now = (now ≡ before) ⊎ ((before ≡ Some (standing_with n home false)) × (dead ≡ true) × (now ≡ Some (standing_with n home true)))

abbrev flag : Option StandingEntry → Option Bool
flag None = None
flag (Some s) = Some s.told

was_told : (home n : ℕ) (before mid now : Option StandingEntry) (dead : Bool) → Was home before dead n mid → mid ≡ Some (standing_with n home false) → dead ≡ true → now ≡ Some (standing_with n home true) → Was home before dead n now
was_told home n before mid now dead (inl same) is dies after = inr (sym same ∙ is, dies, after)
was_told home n before mid now dead (inr other) is dies after = absurd (let two : Some true ≡ Some false = ap flag (sym other.2 ∙ is) in cc two)

-- one more was told
module _ (home : ℕ) (old mid new : List (ℕ × Place)) (name : EntryName) (h : Hears home old mid) (t : Tells mid new home name) where
  by_key : (k : ℕ) (P : Option KeyRecord → Type 0) → (k ≡ name.key → P (option_map (told_in name.version) (known_at mid k))) → P (known_at mid k) → P (known_at new k)
  by_key k P here other = elim (cases_eq k name.key) [
    | inl e ↦ subst P (sym (ap (known_at new) e ∙ t.change.here ∙ ap (λ (j : ℕ). option_map (told_in name.version) (known_at mid j)) (sym e))) (here e)
    | inr ne ↦ subst P (sym (t.change.others k ne)) other
  ]

  abbrev Now : ℕ → ℕ → Option KeyRecord → Type 0
  Now k n o = Was home (standing_at (standing_of (known_at old k)) n) (is_dead_by (known_at old k) n) n (standing_at (standing_of o) n)

  was_there : (k n : ℕ) → k ≡ name.key → n ≡ name.version → (standing_at (standing_of (known_at mid k)) n ≡ Some (standing_with n home false)) × (is_dead_by (known_at mid k) n ≡ true)
  was_there k n e f =
      let w = t.waited in
      let is : known_at mid k ≡ Some w.found = ap (known_at mid) e ∙ w.has in (
        ap (λ (o : Option KeyRecord). standing_at (standing_of o) n) is ∙ ap (standing_at w.found.standing) f ∙ w.stands ∙ ap (λ (v : ℕ). Some (standing_with v home false)) (sym f),
        ap (λ (o : Option KeyRecord). is_dead_by o n) is ∙ ap (is_dead w.found) f ∙ w.dead,
      )

  now_told : (k n : ℕ) → k ≡ name.key → Now k n (option_map (told_in name.version) (known_at mid k))
  now_told k n e = elim (cases_eq n name.version) [
    | inl f ↦
        let there = was_there k n e f in
        let here : standing_at (standing_of (option_map (told_in name.version) (known_at mid k))) n ≡ Some (standing_with n home true) =
        ap (λ (ss : List StandingEntry). standing_at ss n) (standing_told (known_at mid k) name.version)
        ∙ ap (λ (v : ℕ). standing_at (with_told (standing_of (known_at mid k)) v) n) (sym f)
        ∙ at_told (standing_of (known_at mid k)) n (standing_with n home false) there.0 in
        was_told home n (standing_at (standing_of (known_at old k)) n) (standing_at (standing_of (known_at mid k)) n) _ (is_dead_by (known_at old k) n) (h.each k n) there.0 (sym (h.dead k n) ∙ there.1) here
    | inr ne ↦
        let same : standing_at (standing_of (option_map (told_in name.version) (known_at mid k))) n ≡ standing_at (standing_of (known_at mid k)) n =
        ap (λ (ss : List StandingEntry). standing_at ss n) (standing_told (known_at mid k) name.version) ∙ at_told_other (standing_of (known_at mid k)) name.version n ne in
        subst (Was home (standing_at (standing_of (known_at old k)) n) (is_dead_by (known_at old k) n) n) (sym same) (h.each k n)
  ]

  pub hears_more : Hears home old new
  hears_more = record {
    changes = λ k. by_key k (λ o. option_map last_change o ≡ option_map last_change (known_at old k)) (λ e. changes_told (known_at mid k) name.version ∙ h.changes k) (h.changes k);
    dead = λ k n. by_key k (λ o. is_dead_by o n ≡ is_dead_by (known_at old k) n) (λ e. dead_told (known_at mid k) name.version n ∙ h.dead k n) (h.dead k n);
    each = λ k n. by_key k (Now k n) (now_told k n) (h.each k n);
    room = λ k. t.room k ∙ h.room k;
  }

-- where none waits any more, all were told
module _ (home : ℕ) (old new : List (ℕ × Place)) (h : Hears home old new) (none : (name : EntryName) → Awaits (known_at new name.key) home name.version → ⊥) where
  no_wait : (k n : ℕ) (o : Option KeyRecord) → known_at new k ≡ o → standing_at (standing_of o) n ≡ Some (standing_with n home false) → is_dead_by o n ≡ true → ⊥
  no_wait k n None is at dies = let e : None ≡ Some (standing_with n home false) = at in cc e
  no_wait k n (Some r) is at dies = none (record { key = k; version = n }) (record { found = r; has = is; stands = at; dead = dies })

  same_standing : (s : StandingEntry) (v home : ℕ) (b : Bool) → s.version ≡ v → s.home ≡ home → s.told ≡ b → s ≡ standing_with v home b
  same_standing s v home b x y z = λ i. standing_with (x i) (y i) (z i)

  abbrev heard : ℕ → ℕ → StandingEntry → StandingEntry
  heard k n = heard_at home (known_at old k) n

  -- an entry that is as it was
  kept : (k n : ℕ) (s : StandingEntry) → standing_at (standing_of (known_at old k)) n ≡ Some s → standing_at (standing_of (known_at new k)) n ≡ Some s → s ≡ heard k n s
  kept k n s before now = by (s.home == home && is_dead_by (known_at old k) n) refl where
    by : (b : Bool) → (s.home == home && is_dead_by (known_at old k) n) ≡ b → s ≡ cond b (standing_with s.version s.home true) s
    by false e = refl
    by true e = flagged s.told refl where
      flagged : (b : Bool) → s.told ≡ b → s ≡ standing_with s.version s.home true
      flagged true is = same_standing s s.version s.home true refl refl is
      flagged false is =
          let both = and_parts (s.home == home) (is_dead_by (known_at old k) n) e in
          let whose : s ≡ standing_with n home false = same_standing s n home false (found_version (standing_of (known_at old k)) n s before) (eqb-true s.home home both.0) is in
          absurd (no_wait k n (known_at new k) refl (now ∙ ap (λ (x : StandingEntry). Some x) whose) (h.dead k n ∙ both.1))

  by_old : (k n : ℕ) (o : Option StandingEntry) → standing_at (standing_of (known_at old k)) n ≡ o
      → Was home o (is_dead_by (known_at old k) n) n (standing_at (standing_of (known_at new k)) n) → standing_at (standing_of (known_at new k)) n ≡ option_map (heard k n) o
  by_old k n None is (inl same) = same
  by_old k n None is (inr other) = absurd (let no = other.0 in cc no)
  by_old k n (Some s) is (inl same) = same ∙ ap (λ (x : StandingEntry). Some x) (kept k n s is same)
  by_old k n (Some s) is (inr other) =
      let whose : s ≡ standing_with n home false = let e = other.0 in cc e in
      let test : (s.home == home && is_dead_by (known_at old k) n) ≡ true = and_from (s.home == home) (is_dead_by (known_at old k) n) (eq-eqb s.home home (ap (λ (x : StandingEntry). x.home) whose)) other.1 in
      let now : heard k n s ≡ standing_with n home true = ap (λ (b : Bool). cond b (standing_with s.version s.home true) s) test ∙ ap (λ (x : StandingEntry). standing_with x.version x.home true) whose in
      other.2 ∙ ap (λ (x : StandingEntry). Some x) (sym now)

  pub hears_all : HearsAll home old new
  hears_all = record {
    changes = h.changes;
    standing = λ k n. by_old k n (standing_at (standing_of (known_at old k)) n) refl (h.each k n);
    room = h.room;
    none = λ k n waits. none (record { key = k; version = n }) waits;
  }

-- where a search found one, and where it found none
pub found_one : {X A : Type 0} (o : Option X) (P : X → Type 0) → is_some o ≡ true → IfSome o P → ((x : X) → P x → A) → A
found_one None P some each f = absurd (cc some)
found_one (Some x) P some each f = f x each

pub found_none : {X A : Type 0} (o : Option X) → is_some o ≡ false → IfNone o A → A
found_none None none all = all
found_none (Some x) none all = absurd (cc none)
