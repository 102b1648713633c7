-- The names of the own log are told dead while the core hears of its own dead entries.
use Rattle.std.proofs.Common.{◌≡◌, ◌⊎◌, inl, inr, ⊎_elim, ℕ, ◌<◌, Bool, true, false, cond, List, Option, Some, None, option_map, refl, sym, ◌∙◌, ap, subst, arith}
use Rattle.std.proofs.lemmas.Bool.{cases_eq}
use Rattle.log_entry.specs.declared.entry.EntryName.{EntryName}
use Rattle.core_index.specs.declared.types.StandingEntry.{StandingEntry}
use Rattle.core_index.specs.Index.{known_at, Tells}
use Rattle.core_index.specs.Records.{KeyRecord, Awaits, standing_at, standing_of, standing_with, with_told, told_in}
use Rattle.core_index.specs.Slots.{Place}
use Rattle.core_index.proofs.Clients.{at_told, at_told_other}
use Rattle.log_standing.specs.declared.types.Copies.{Copies}
use Rattle.log_standing.specs.NameCounts.{StandingState, name_eq, copies_at, count_in, count_of, is_told, killed, Changes}
use Rattle.log_standing.specs.NameCounts as counts
use Rattle.log_standing.proofs.Clients.{same_name, name_same}
use Rattle.core_worker.specs.Hearing.{is_dead_by}
use Rattle.log_cleaner.specs.Tallied.{KeepsTally}
use Rattle.log_cleaner.proofs.Between.{kill_tally}
use Rattle.log_cleaner.proofs.TallyLaws.{keeps_both, keeps_itself}
use Rattle.core_worker.specs.StandingTies.{HearsOwn}
use Rattle.core_worker.proofs.Heard.{Hears, hears_none, hears_more, dead_told, standing_told}

flag : Option StandingEntry → Option Bool
flag None = None
flag (Some s) = Some s.told

-- a name that awaits, in the words of the record
pub stands_by : (o : Option KeyRecord) (home n : ℕ) → Awaits o home n → standing_at (standing_of o) n ≡ Some (standing_with n home false)
stands_by o home n a = ap (λ (x : Option KeyRecord). standing_at (standing_of x) n) a.has ∙ a.stands

pub dies_by : (o : Option KeyRecord) (home n : ℕ) → Awaits o home n → is_dead_by o n ≡ true
dies_by o home n a = ap (λ (x : Option KeyRecord). is_dead_by x n) a.has ∙ a.dead

pub awaits_by : (o : Option KeyRecord) (home n : ℕ) → standing_at (standing_of o) n ≡ Some (standing_with n home false) → is_dead_by o n ≡ true → Awaits o home n
awaits_by None home n at dies = absurd (cc at)
awaits_by (Some r) home n at dies = record { found = r; has = refl; stands = at; dead = dies }

-- what awaits now awaited before
pub awaits_was : (home : ℕ) (old new : List (ℕ × Place)) → Hears home old new → (k n : ℕ) → Awaits (known_at new k) home n → Awaits (known_at old k) home n
unfolding flag
awaits_was home old new h k n a =
    let at = stands_by (known_at new k) home n a in
    ⊎_elim
    (λ same. awaits_by (known_at old k) home n (sym same ∙ at) (sym (h.dead k n) ∙ dies_by (known_at new k) home n a))
    (λ other. absurd (let two : Some true ≡ Some false = ap flag (sym other.2 ∙ at) in cc two))
    (h.each k n)

-- so many were told so far
pub record TellsSoFar (home : ℕ) (first es : List (ℕ × Place)) (old st : StandingState) : Type 0 where
  pub hears : Hears home first es
  pub counts : (k n : ℕ) → count_of st k n ≡ count_of old k n
  pub told : (k n : ℕ) → is_told st k n ≡ true → (is_told old k n ≡ true) ⊎ (Awaits (known_at first k) home n × (Awaits (known_at es k) home n → ⊥))
  pub all : (k n : ℕ) → 0 < count_of old k n → (is_told old k n ≡ true) ⊎ (Awaits (known_at first k) home n × (Awaits (known_at es k) home n → ⊥)) → is_told st k n ≡ true
  pub settled : st.settled ≡ old.settled
  pub room : st.room ≡ old.room
  pub tally : KeepsTally old st

pub tells_none : (home : ℕ) (es : List (ℕ × Place)) (st : StandingState) → TellsSoFar home es es st st
tells_none home es st = record {
  hears = hears_none home es;
  counts = λ k n. refl;
  told = λ k n t. inl t;
  all = λ k n some which. ⊎_elim (λ t. t) (λ x. absurd (x.1 x.0)) which;
  settled = refl;
  room = refl;
  tally = keeps_itself st;
}

count_killed : (o : Option Copies) → count_in (option_map killed o) ≡ count_in o
count_killed None = refl
count_killed (Some c) = refl

told_killed : (o : Option Copies) → 0 < count_in o → counts.told_in (option_map killed o) ≡ true
told_killed None some = absurd (omega (arith, some))
told_killed (Some c) some = refl

-- one name more
module _ (home : ℕ) (first es next : List (ℕ × Place)) (old st now : StandingState) (name : EntryName) (t : Tells es next home name) (kills : Changes st now name.key name.version (option_map killed (copies_at st name.key name.version)))
    (settled : now.settled ≡ st.settled) (room : now.room ≡ st.room) (tally : now.tally ≡ counts.tally_without st name.key name.version) (floors : counts.LowersFloors st now name.key name.version) (S : TellsSoFar home first es old st) where
  hears_next : Hears home first next
  hears_next = hears_more home first es next name S.hears t

  step : Hears home es next
  step = hears_more home es es next name (hears_none home es) t

  -- it awaits no more, and every other name as before
  gone : (k n : ℕ) → name.key ≡ k → name.version ≡ n → Awaits (known_at next k) home n → ⊥
  unfolding flag
  gone k n key version a =
      let here : known_at next k ≡ option_map (told_in name.version) (known_at es name.key) = ap (known_at next) (sym key) ∙ t.change.here in
      let was : standing_at (standing_of (known_at es name.key)) name.version ≡ Some (standing_with name.version home false) = stands_by (known_at es name.key) home name.version t.waited in
      let now_told : standing_at (standing_of (known_at next k)) n ≡ Some (standing_with name.version home true) =
      ap (λ (o : Option KeyRecord). standing_at (standing_of o) n) here
      ∙ ap (λ (ss : List StandingEntry). standing_at ss n) (standing_told (known_at es name.key) name.version)
      ∙ ap (standing_at (with_told (standing_of (known_at es name.key)) name.version)) (sym version)
      ∙ at_told (standing_of (known_at es name.key)) name.version (standing_with name.version home false) was in
      let two : Some true ≡ Some false = ap flag (sym now_told ∙ stands_by (known_at next k) home n a) in cc two

  still : (k n : ℕ) → ((name.key ≡ k) → (name.version ≡ n) → ⊥) → Awaits (known_at es k) home n → Awaits (known_at next k) home n
  still k n other a = ⊎_elim
      (λ same.
      let ne : n ≡ name.version → ⊥ = λ at. other (sym same) (sym at) in
      let here : known_at next k ≡ option_map (told_in name.version) (known_at es k) = ap (known_at next) same ∙ t.change.here ∙ ap (λ (j : ℕ). option_map (told_in name.version) (known_at es j)) (sym same) in
      awaits_by (known_at next k) home n
      (ap (λ (o : Option KeyRecord). standing_at (standing_of o) n) here
      ∙ ap (λ (ss : List StandingEntry). standing_at ss n) (standing_told (known_at es k) name.version)
      ∙ at_told_other (standing_of (known_at es k)) name.version n ne ∙ stands_by (known_at es k) home n a)
      (ap (λ (o : Option KeyRecord). is_dead_by o n) here ∙ dead_told (known_at es k) name.version n ∙ dies_by (known_at es k) home n a))
      (λ ne. subst (λ (o : Option KeyRecord). Awaits o home n) (sym (t.change.others k ne)) a)
      (cases_eq k name.key)

  copies_now : (k n : ℕ) (b : Bool) → name_eq (name.key, name.version) (k, n) ≡ b → copies_at now k n ≡ cond b (option_map killed (copies_at st name.key name.version)) (copies_at st k n)
  copies_now k n b e = kills k n ∙ ap (λ (c : Bool). cond c (option_map killed (copies_at st name.key name.version)) (copies_at st k n)) e

  here_is : (k n : ℕ) → name_eq (name.key, name.version) (k, n) ≡ true → copies_at st name.key name.version ≡ copies_at st k n
  here_is k n e = let same = same_name name.key name.version k n e in λ i. copies_at st (same.0 i) (same.1 i)

  count_now : (k n : ℕ) → count_of now k n ≡ count_of st k n
  count_now k n = by (name_eq (name.key, name.version) (k, n)) refl where
    by : (b : Bool) → name_eq (name.key, name.version) (k, n) ≡ b → count_of now k n ≡ count_of st k n
    by true e = ap count_in (copies_now k n true e) ∙ count_killed (copies_at st name.key name.version) ∙ ap count_in (here_is k n e)
    by false e = ap count_in (copies_now k n false e)

  abbrev Was : ℕ → ℕ → List (ℕ × Place) → Type 0
  Was k n ix = (is_told old k n ≡ true) ⊎ (Awaits (known_at first k) home n × (Awaits (known_at ix k) home n → ⊥))

  other_name : (k n : ℕ) → name_eq (name.key, name.version) (k, n) ≡ false → (name.key ≡ k) → (name.version ≡ n) → ⊥
  other_name k n e key version = (let yes : name_eq (name.key, name.version) (k, n) ≡ true = (λ i. name_eq (key i, version i) (k, n)) ∙ name_same k n in let both : true ≡ false = sym yes ∙ e in cc both)

  told_now : (k n : ℕ) → is_told now k n ≡ true → Was k n next
  told_now k n told = by (name_eq (name.key, name.version) (k, n)) refl where
    by : (b : Bool) → name_eq (name.key, name.version) (k, n) ≡ b → Was k n next
    by true e =
        let same = same_name name.key name.version k n e in
        let waited : Awaits (known_at es k) home n = subst (λ (j : ℕ). Awaits (known_at es j) home n) same.0 (subst (λ (i : ℕ). Awaits (known_at es name.key) home i) same.1 t.waited) in
        inr (awaits_was home first es S.hears k n waited, gone k n same.0 same.1)
    by false e =
        let same : is_told now k n ≡ is_told st k n = ap counts.told_in (copies_now k n false e) in
        ⊎_elim (λ y. inl y) (λ y. inr (y.0, λ a. y.1 (awaits_was home es next step k n a))) (S.told k n (sym same ∙ told))

  all_now : (k n : ℕ) → 0 < count_of old k n → Was k n next → is_told now k n ≡ true
  all_now k n some which = by (name_eq (name.key, name.version) (k, n)) refl where
    by : (b : Bool) → name_eq (name.key, name.version) (k, n) ≡ b → is_told now k n ≡ true
    by true e =
        let there : 0 < count_in (copies_at st name.key name.version) = (let a = ap count_in (here_is k n e) in let b = S.counts k n in omega (arith, a, b, some)) in
        ap counts.told_in (copies_now k n true e) ∙ told_killed (copies_at st name.key name.version) there
    by false e = ap counts.told_in (copies_now k n false e) ∙ S.all k n some (⊎_elim (λ y. inl y) (λ y. inr (y.0, λ a. y.1 (still k n (other_name k n e) a))) which)

  pub tells_more : TellsSoFar home first next old now
  tells_more = record {
    hears = hears_next;
    counts = λ k n. count_now k n ∙ S.counts k n;
    told = told_now;
    all = all_now;
    settled = settled ∙ S.settled;
    room = room ∙ S.room;
    tally = keeps_both old st now S.tally (kill_tally st now name.key name.version kills tally floors);
  }

-- where none awaits any more, all were told
pub tells_all : (home : ℕ) (first es : List (ℕ × Place)) (old st : StandingState) → ((name : EntryName) → Awaits (known_at es name.key) home name.version → ⊥) → TellsSoFar home first es old st → HearsOwn home first old st
tells_all home first es old st none S = record {
  counts = S.counts;
  told = λ k n t. ⊎_elim (λ x. inl x) (λ x. inr x.0) (S.told k n t);
  all = λ k n some which. S.all k n some (⊎_elim (λ x. inl x) (λ a. inr (a, λ b. none (record { key = k; version = n }) b)) which);
  settled = S.settled;
  room = (let r = S.room in omega (arith, r));
  tally = S.tally;
}
