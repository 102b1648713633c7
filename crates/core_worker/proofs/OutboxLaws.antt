-- Names are taken from the index for another member, and then sent.
use Rattle.std.proofs.Common.{◌≡◌, ◌≢◌, ◌⊎◌, inl, inr, ⊎_elim, ℕ, ◌<◌, ◌||◌, ◌&&◌, eqb, Bool, true, false, cond, List, ◌∷◌, Option, Some, None, option_map, refl, sym, ◌∙◌, ap, subst}
use Rattle.std.proofs.lemmas.Bool.{cases_eq, eqb-true, eq-eqb, ne_eqb, and_parts, and_from, or_cases, or_left}
use Rattle.log_entry.specs.declared.entry.EntryName.{EntryName}
use Rattle.core_index.specs.declared.types.StandingEntry.{StandingEntry}
use Rattle.core_index.specs.Index.{known_at, Tells}
use Rattle.core_index.specs.Records.{KeyRecord, last_of, standing_at, standing_of, standing_with, told_in}
use Rattle.core_index.specs.Slots as slots
use Rattle.core_index.proofs.Clients.{at_told, at_told_other}
use Rattle.group_laws.specs.Places.{Place, core_of, owner, members}
use Rattle.group_laws.specs.State.{Notices}
use Rattle.group_laws.specs.Updates.{has}
use Rattle.group_laws.specs.MemberViews.{View}
use Rattle.group_board.specs.Conditions.{MaySend}
use Rattle.group_board.specs.Views.{IsDeadIn, after_send}
use Rattle.core_worker.specs.KeyTies.{LeftIn, KnowsKey}
use Rattle.core_worker.specs.Outbox.{mailing, AreToSend, Parts}
use Rattle.core_worker.proofs.Heard.{standing_told}
use Rattle.core_worker.proofs.HeardNames.{stands_by, dies_by}
use Rattle.core_worker.proofs.Tidied.{member_of, stands_of, dead_is}

last_told : (o : Option KeyRecord) (n : ℕ) → last_of (option_map (told_in n) o) ≡ last_of o
last_told None n = refl
last_told (Some r) n = refl

left_told : (v : View) (k : ℕ) (o : Option KeyRecord) (n : ℕ) (c : Option (List ℕ)) → LeftIn v k o c → LeftIn v k (option_map (told_in n) o) c
left_told v k None n c l = l
left_told v k (Some r) n c l = l

-- one name more
has_cons : (x : EntryName) (ns : List EntryName) (k n : ℕ) → has (x ∷ ns) k n ≡ true → ((k ≡ x.key) × (n ≡ x.version)) ⊎ (has ns k n ≡ true)
has_cons x ns k n t = ⊎_elim
    (λ here. let both = and_parts (eqb x.key k) (eqb x.version n) here in inl (sym (eqb-true x.key k both.0), sym (eqb-true x.version n both.1)))
    (λ rest. inr rest)
    (or_cases (eqb x.key k && eqb x.version n) (has ns k n) t)

has_here : (x : EntryName) (ns : List EntryName) (k n : ℕ) → k ≡ x.key → n ≡ x.version → has (x ∷ ns) k n ≡ true
has_here x ns k n e f = or_left (eqb x.key k && eqb x.version n) (has ns k n) (and_from (eqb x.key k) (eqb x.version n) (eq-eqb x.key k (sym e)) (eq-eqb x.version n (sym f)))

not_both : (a b : Bool) → b ≡ false → (a && b) ≡ false
not_both true b e = e
not_both false b e = refl

other_key : (x : EntryName) (ns : List EntryName) (k n : ℕ) → x.key ≢ k → has (x ∷ ns) k n ≡ has ns k n
other_key x ns k n ne = ap (λ (b : Bool). (b && eqb x.version n) || has ns k n) (ne_eqb x.key k ne)

other_version : (x : EntryName) (ns : List EntryName) (k n : ℕ) → x.version ≢ n → has (x ∷ ns) k n ≡ has ns k n
other_version x ns k n ne = ap (λ (b : Bool). b || has ns k n) (not_both (eqb x.key k) (eqb x.version n) (ne_eqb x.version n ne))

-- a name is taken for a member
module _ (p : Place) (m to : ℕ) (v : View) (all : List EntryName) (es ix : List (ℕ × slots.Place)) (name : EntryName) (t : Tells es ix (core_of p to) name) where
  abbrev home : ℕ
  home = core_of p to

  before : standing_at (standing_of (known_at es name.key)) name.version ≡ Some (standing_with name.version home false)
  before = stands_by (known_at es name.key) home name.version t.waited

  now : standing_at (standing_of (known_at ix name.key)) name.version ≡ Some (standing_with name.version home true)
  now = ap (λ (o : Option KeyRecord). standing_at (standing_of o) name.version) t.change.here
      ∙ ap (λ (ss : List StandingEntry). standing_at ss name.version) (standing_told (known_at es name.key) name.version)
      ∙ at_told (standing_of (known_at es name.key)) name.version (standing_with name.version home false) before

  same_at : (n : ℕ) → n ≢ name.version → standing_at (standing_of (known_at ix name.key)) n ≡ standing_at (standing_of (known_at es name.key)) n
  same_at n ne = ap (λ (o : Option KeyRecord). standing_at (standing_of o) n) t.change.here
      ∙ ap (λ (ss : List StandingEntry). standing_at ss n) (standing_told (known_at es name.key) name.version)
      ∙ at_told_other (standing_of (known_at es name.key)) name.version n ne

  here : KnowsKey p (mailing all v) name.key (known_at es name.key) → KnowsKey p (mailing (name ∷ all) v) name.key (known_at ix name.key)
  here K = record {
    last = K.last ∙ sym (last_told (known_at es name.key) name.version) ∙ ap last_of (sym t.change.here);
    cell = subst (λ (o : Option KeyRecord). LeftIn v name.key o (v.cell name.key)) (sym t.change.here) (left_told v name.key (known_at es name.key) name.version (v.cell name.key) K.cell);
    present = λ n. elim (cases_eq n name.version) [
      | inl e ↦ K.present n ∙ ap (λ (i : ℕ). option_map (λ (s : StandingEntry). s.home) (standing_at (standing_of (known_at es name.key)) i)) e
          ∙ ap (option_map (λ (s : StandingEntry). s.home)) before ∙ sym (ap (option_map (λ (s : StandingEntry). s.home)) now)
          ∙ ap (λ (i : ℕ). option_map (λ (s : StandingEntry). s.home) (standing_at (standing_of (known_at ix name.key)) i)) (sym e)
      | inr ne ↦ K.present n ∙ ap (option_map (λ (s : StandingEntry). s.home)) (sym (same_at n ne))
    ];
    told = λ n s is. elim (cases_eq n name.version) [
      | inl e ↦
          let at : Some s ≡ Some (standing_with name.version home true) = sym is ∙ ap (standing_at (standing_of (known_at ix name.key))) e ∙ now in
          let flag : s ≡ standing_with name.version home true = cc at in
          ap (λ (b : Bool). cond b true (v.told name.key n)) (has_here name all name.key n refl e) ∙ sym (ap (λ (x : StandingEntry). x.told) flag)
      | inr ne ↦ ap (λ (b : Bool). cond b true (v.told name.key n)) (other_version name all name.key n (λ e. ne (sym e))) ∙ K.told n s (sym (same_at n ne) ∙ is)
    ];
  }

  away : (k : ℕ) → k ≢ name.key → KnowsKey p (mailing all v) k (known_at es k) → KnowsKey p (mailing (name ∷ all) v) k (known_at ix k)
  away k ne K =
      let same = t.change.others k ne in
      record {
        last = K.last ∙ ap last_of (sym same);
        cell = subst (λ (o : Option KeyRecord). LeftIn v k o (v.cell k)) (sym same) K.cell;
        present = λ n. K.present n ∙ ap (λ (o : Option KeyRecord). option_map (λ (s : StandingEntry). s.home) (standing_at (standing_of o) n)) (sym same);
        told = λ n s is. ap (λ (b : Bool). cond b true (v.told k n)) (other_key name all k n (λ e. ne (sym e)))
            ∙ K.told n s (ap (λ (o : Option KeyRecord). standing_at (standing_of o) n) (sym same) ∙ is);
      }

  pub noted : (k : ℕ) → KnowsKey p (mailing all v) k (known_at es k) → KnowsKey p (mailing (name ∷ all) v) k (known_at ix k)
  noted k K = elim (cases_eq k name.key) [
    | inl e ↦ subst (λ (j : ℕ). KnowsKey p (mailing (name ∷ all) v) j (known_at ix j)) (sym e) (here (subst (λ (j : ℕ). KnowsKey p (mailing all v) j (known_at es j)) e K))
    | inr ne ↦ away k ne K
  ]

  -- it may be sent
  module _ (K : KnowsKey p (mailing all v) name.key (known_at es name.key)) (own : owner p name.key ≡ m) where
    there : v.present name.key name.version ≡ Some to
    there =
        let s = stands_of p m (mailing all v) name.key (known_at es name.key) K name.version (standing_with name.version home false) before in
        s.1 ∙ ap (λ (h : ℕ). Some h) (member_of p s.0 to s.2)

    dies : IsDeadIn v name.key name.version
    dies = dead_is p (mailing all v) name.key (known_at es name.key) K name.version (dies_by (known_at es name.key) home name.version t.waited)

    unsent : (b : Bool) → cond b true (v.told name.key name.version) ≡ false → v.told name.key name.version ≡ false
    unsent true e = absurd (cc e)
    unsent false e = e

    new : v.told name.key name.version ≡ false
    new = unsent (has all name.key name.version) (K.told name.version (standing_with name.version home false) before)

    by_name : (ns : List EntryName) (P : ℕ → ℕ → Type 0) → P name.key name.version → ((k n : ℕ) → has ns k n ≡ true → P k n) → (k n : ℕ) → has (name ∷ ns) k n ≡ true → P k n
    by_name ns P one each k n is = ⊎_elim
        (λ e. subst (λ (j : ℕ). P j n) (sym e.0) (subst (P name.key) (sym e.1) one))
        (λ rest. each k n rest)
        (has_cons name ns k n is)

    pub sendable : (ns : List EntryName) → AreToSend p m to v ns → AreToSend p m to v (name ∷ ns)
    sendable ns A = record {
      own = by_name ns (λ k n. owner p k ≡ m) own A.own;
      dead = by_name ns (IsDeadIn v) dies A.dead;
      stands = by_name ns (λ k n. v.present k n ≡ Some to) there A.stands;
      untold = by_name ns (λ k n. v.told k n ≡ false) new A.untold;
    }

-- notices of such names may be sent
pub may_send : (p : Place) (m to : ℕ) (v : View) (n : Notices) → m < members p → to < members p → to ≢ m → AreToSend p m to v n.dead
    → ((k i : ℕ) → has n.gone k i ≡ true → (v.leaving k i ≡ true) × (owner p k ≡ to)) → MaySend p m v to n
may_send p m to v n mine theirs other A gone = record {
  member = mine;
  receiver = theirs;
  other = other;
  dead = λ k i t. (A.own k i t, A.dead k i t, A.stands k i t, A.untold k i t);
  gone = gone;
}

told_then : (a b t : Bool) → cond (a || b) true t ≡ cond b true (cond a true t)
told_then true true t = refl
told_then true false t = refl
told_then false b t = refl

-- once they are sent, what the core knows of its keys is so by the view of what is left to be sent
pub sent : (p : Place) (to : ℕ) (v : View) (n : Notices) (all rest : List EntryName) → Parts all n.dead rest → (k : ℕ) (o : Option KeyRecord) → KnowsKey p (mailing all v) k o → KnowsKey p (mailing rest (after_send to n v)) k o
sent p to v n all rest parts k o K = record {
  last = K.last;
  cell = K.cell;
  present = K.present;
  told = λ i s is. sym (ap (λ (b : Bool). cond b true (v.told k i)) (parts k i) ∙ told_then (has n.dead k i) (has rest k i) (v.told k i)) ∙ K.told i s is;
}

-- and what waits for another member may be sent still
pub still : (p : Place) (m to other : ℕ) (v : View) (n : Notices) (ns : List EntryName) → to ≢ other → AreToSend p m to v n.dead → AreToSend p m other v ns → AreToSend p m other (after_send to n v) ns
still p m to other v n ns ne mine theirs = record {
  own = theirs.own;
  dead = theirs.dead;
  stands = theirs.stands;
  untold = λ k i t. by k i t (has n.dead k i) refl;
} where
  by : (k i : ℕ) → has ns k i ≡ true → (b : Bool) → has n.dead k i ≡ b → cond (has n.dead k i) true (v.told k i) ≡ false
  by k i t true is = absurd (ne (let both : Some to ≡ Some other = sym (mine.stands k i is) ∙ theirs.stands k i t in cc both))
  by k i t false is = ap (λ (b : Bool). cond b true (v.told k i)) is ∙ theirs.untold k i t
