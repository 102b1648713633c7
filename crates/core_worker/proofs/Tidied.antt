-- What the two rules on a core's own keys leave of what its index knows.
use Rattle.std.proofs.Common.{◌≡◌, ◌⊎◌, inl, inr, ⊎_elim, ℕ, ◌+◌, ◌*◌, ◌==◌, ◌&&◌, ◌||◌, nat_lt, Bool, true, false, cond, List, [], ◌∷◌, Option, Some, None, option_map, refl, sym, ◌∙◌, ap, subst, arith}
use Rattle.std.proofs.lemmas.Bool.{cases_eq, eqb-true, eq-eqb, ne_eqb, and_parts, and_from, or_cases, ltb-true, lt-ltb, cond-true, cond-false}
use Rattle.log_entry.specs.declared.entry.Body.{Body}
use Rattle.log_entry.specs.declared.entry.Body.TheVariants as bodies
use Rattle.core_index.specs.declared.types.StandingEntry.{StandingEntry}
use Rattle.core_index.specs.Index.{known_at}
use Rattle.core_index.specs.Records.{KeyRecord, is_tombstone, stands_alone, is_empty, is_forgettable, last_of, standing_at, standing_of, standing_with}
use Rattle.core_index.specs.Slots as slots
use Rattle.core_index.proofs.Clients.{alone_none}
use Rattle.group_laws.specs.Places.{Place, core_of, owner}
use Rattle.group_laws.specs.MemberViews.{View}
use Rattle.group_board.specs.Views.{IsDeadIn, IsSpentIn, TellsItselfIn, IsTidyIn}
use Rattle.core_worker.specs.KeyTies.{Left, LeftIn, KnowsKey}
use Rattle.core_worker.specs.Hearing.{is_dead_by, heard_at, last_change, HearsAll}

-- members are told apart by their cores
pub member_of : (p : Place) (a b : ℕ) → core_of p a ≡ core_of p b → a ≡ b
unfolding core_of
member_of p a b e = let same : p.group * p.layout.group + a ≡ p.group * p.layout.group + b = e in omega (arith, same)

-- a deletion left nothing, and nothing else did
pub left_none : (v : View) (k : ℕ) (b : Body) → is_tombstone b ≡ true → Left v k b (v.cell k) → v.cell k ≡ None
left_none v k (bodies.Pointer q) t l = absurd (cc t)
left_none v k (bodies.Embedded u) t l = absurd (cc t)
left_none v k bodies.Tombstone t l = l

left_some : (v : View) (k : ℕ) (b : Body) → v.cell k ≡ None → Left v k b (v.cell k) → is_tombstone b ≡ true
left_some v k (bodies.Pointer q) none l = absurd (let e = l.1 in let both : None ≡ Some l.0 = sym none ∙ e in cc both)
left_some v k (bodies.Embedded u) none l = absurd (let both : None ≡ Some u = sym none ∙ l in cc both)
left_some v k bodies.Tombstone none l = refl

-- every entry has the version
alone_is : (ss : List StandingEntry) (n : ℕ) → ((u : ℕ) (s : StandingEntry) → standing_at ss u ≡ Some s → u ≡ n) → stands_alone ss n ≡ true
alone_is [] n all = refl
alone_is (x ∷ ss) n all =
    let here : x.version ≡ n = all x.version x (cond-true (x.version == x.version) (Some x) (standing_at ss x.version) (eq-eqb x.version x.version refl)) in
    and_from (x.version == n) (stands_alone ss n) (eq-eqb x.version n here) (alone_is ss n (λ u s is. ⊎_elim (λ e. sym e ∙ here) (λ ne. all u s (cond-false (x.version == u) (Some x) (standing_at ss u) (ne_eqb x.version u ne) ∙ is)) (cases_eq x.version u)))

none_stands : (ss : List StandingEntry) → ((n : ℕ) → standing_at ss n ≡ None) → is_empty ss ≡ true
none_stands [] none = refl
none_stands (x ∷ ss) none = absurd (let at = none x.version in let here : standing_at (x ∷ ss) x.version ≡ Some x = cond-true (x.version == x.version) (Some x) (standing_at ss x.version) (eq-eqb x.version x.version refl) in let both : None ≡ Some x = sym at ∙ here in cc both)

module _ (p : Place) (m : ℕ) (v : View) (k : ℕ) (o : Option KeyRecord) (K : KnowsKey p v k o) where
  -- an entry that stands is present at its home, and the other way round
  pub present_of : (n h : ℕ) → v.present k n ≡ Some h → (s : StandingEntry) × (standing_at (standing_of o) n ≡ Some s) × (s.home ≡ core_of p h)
  present_of n h is = by (standing_at (standing_of o) n) refl where
    by : (x : Option StandingEntry) → standing_at (standing_of o) n ≡ x → (s : StandingEntry) × (standing_at (standing_of o) n ≡ Some s) × (s.home ≡ core_of p h)
    by None e = absurd (let both : Some (core_of p h) ≡ None = sym (ap (option_map (core_of p)) is) ∙ K.present n ∙ ap (option_map (λ (s : StandingEntry). s.home)) e in cc both)
    by (Some s) e = (s, e, (let both : Some s.home ≡ Some (core_of p h) = sym (ap (option_map (λ (s : StandingEntry). s.home)) e) ∙ sym (K.present n) ∙ ap (option_map (core_of p)) is in cc both))

  pub stands_of : (n : ℕ) (s : StandingEntry) → standing_at (standing_of o) n ≡ Some s → (h : ℕ) × (v.present k n ≡ Some h) × (core_of p h ≡ s.home)
  stands_of n s is = by (v.present k n) refl where
    by : (x : Option ℕ) → v.present k n ≡ x → (h : ℕ) × (v.present k n ≡ Some h) × (core_of p h ≡ s.home)
    by None e = absurd (let both : Some s.home ≡ None = sym (ap (option_map (λ (s : StandingEntry). s.home)) is) ∙ sym (K.present n) ∙ ap (option_map (core_of p)) e in cc both)
    by (Some h) e = (h, e, (let both : Some (core_of p h) ≡ Some s.home = sym (ap (option_map (core_of p)) e) ∙ K.present n ∙ ap (option_map (λ (s : StandingEntry). s.home)) is in cc both))

-- what the record has as dead the view has, and the other way round
pub dead_is : (p : Place) (v : View) (k : ℕ) (o : Option KeyRecord) → KnowsKey p v k o → (n : ℕ) → is_dead_by o n ≡ true → IsDeadIn v k n
dead_is p v k None K n t = absurd (cc t)
dead_is p v k (Some r) K n t = ⊎_elim
    (λ lt. inl (let e = ltb-true n r.version lt in let l = K.last in omega (arith, e, l)))
    (λ both.
    let a = and_parts (n == r.version) (is_tombstone r.body && stands_alone r.standing n) both in
    let b = and_parts (is_tombstone r.body) (stands_alone r.standing n) a.1 in
    inr (eqb-true n r.version a.0 ∙ sym K.last, left_none v k r.body b.0 K.cell, λ u h is. ⊎_elim (λ e. e) (λ ne. absurd (let s = present_of p 0 v k (Some r) K u h is in let none = alone_none r.standing n u ne b.1 in let clash : None ≡ Some s.0 = sym none ∙ s.1 in cc clash)) (cases_eq u n)))
    (or_cases (nat_lt n r.version) ((n == r.version) && (is_tombstone r.body && stands_alone r.standing n)) t)

or_by : (a b : Bool) → (a ≡ true) ⊎ (b ≡ true) → (a || b) ≡ true
or_by true b h = refl
or_by false b (inl h) = absurd (cc h)
or_by false b (inr h) = h

pub dead_by : (p : Place) (v : View) (k : ℕ) (o : Option KeyRecord) → KnowsKey p v k o → (n : ℕ) (s : StandingEntry) → standing_at (standing_of o) n ≡ Some s → IsDeadIn v k n → is_dead_by o n ≡ true
dead_by p v k None K n s is d = absurd (cc is)
dead_by p v k (Some r) K n s is d = or_by (nat_lt n r.version) ((n == r.version) && (is_tombstone r.body && stands_alone r.standing n)) (⊎_elim
    (λ lt. inl (lt-ltb n r.version (let l = K.last in omega (arith, lt, l))))
    (λ x. inr (and_from (n == r.version) (is_tombstone r.body && stands_alone r.standing n) (eq-eqb n r.version (x.0 ∙ K.last))
    (and_from (is_tombstone r.body) (stands_alone r.standing n) (left_some v k r.body x.1 K.cell)
    (alone_is r.standing n (λ u t at. (let h = stands_of p 0 v k (Some r) K u t at in x.2 u h.0 h.1))))))
    d)

-- a key whose record isn't to be forgotten isn't spent, but where nothing of it was ever finished
pub spent_last : (p : Place) (m : ℕ) (v : View) (k : ℕ) (o : Option KeyRecord) → KnowsKey p v k o → is_forgettable o ≡ false → IsSpentIn p m v k → v.last k ≡ 0
spent_last p m v k None K kept spent = K.last
spent_last p m v k (Some r) K kept spent = absurd (
    let dead = left_some v k r.body spent.1 K.cell in
    let none : (n : ℕ) → standing_at r.standing n ≡ None = λ n. by n (standing_at r.standing n) refl in
    let both : true ≡ false = sym (and_from (is_tombstone r.body) (is_empty r.standing) dead (none_stands r.standing none)) ∙ kept in cc both)
  where
    by : (n : ℕ) (x : Option StandingEntry) → standing_at r.standing n ≡ x → x ≡ None
    by n None e = refl
    by n (Some s) e = absurd (let h = stands_of p 0 v k (Some r) K n s e in let both : None ≡ Some h.0 = sym (spent.2 n) ∙ h.1 in cc both)

pub change_last : (a b : Option KeyRecord) → option_map last_change b ≡ option_map last_change a → last_of b ≡ last_of a
change_last None None e = refl
change_last None (Some s) e = absurd (cc e)
change_last (Some r) None e = absurd (cc e)
change_last (Some r) (Some s) e = ap (λ (x : Option (ℕ × Body)). version_in x) e where
  version_in : Option (ℕ × Body) → ℕ
  version_in None = 0
  version_in (Some x) = x.0

change_left : (v u : View) (k : ℕ) (a b : Option KeyRecord) → u.blocks ≡ v.blocks → option_map last_change b ≡ option_map last_change a → (c : Option (List ℕ)) → LeftIn v k a c → LeftIn u k b c
change_left v u k None None blocks e c l = l
change_left v u k None (Some s) blocks e c l = absurd (cc e)
change_left v u k (Some r) None blocks e c l = absurd (cc e)
change_left v u k (Some r) (Some s) blocks e c l = by s.body (let both : Some (s.version, s.body) ≡ Some (r.version, r.body) = e in ap (λ (x : Option (ℕ × Body)). body_in x) both) where
  body_in : Option (ℕ × Body) → Body
  body_in None = bodies.Tombstone
  body_in (Some x) = x.1

  there : (b : Body) → Left v k b c → Left u k b c
  there (bodies.Pointer q) x = (x.0, x.1, ap (λ (f : ℕ → _). f q) blocks ∙ x.2)
  there (bodies.Embedded y) x = x
  there bodies.Tombstone x = x

  by : (b : Body) → b ≡ r.body → Left u k b c
  by b same = there b (subst (λ (y : Body). Left v k y c) (sym same) l)

module _ (p : Place) (m : ℕ) (v : View) (last : ℕ → ℕ) (told dead : ℕ → ℕ → Bool) (T : IsTidyIn p m v last told dead) (old new : List (ℕ × slots.Place)) (A : HearsAll (core_of p m) old new) where
  abbrev tidy : View
  tidy = record v { last = last; told = told; dead = dead }

  -- the index knows the key by the view after the two rules, where it did before, and the core heard of its own dead names
  pub tidied_knows : (k : ℕ) → owner p k ≡ m → (IsSpentIn p m v k → v.last k ≡ 0) → KnowsKey p v k (known_at old k) → KnowsKey p tidy k (known_at new k)
  tidied_knows k own spent K = record {
    last = ⊎_elim (λ x. x.1 ∙ sym (spent x.0)) (λ e. e) (T.keeps k) ∙ K.last ∙ sym (change_last (known_at old k) (known_at new k) (A.changes k));
    cell = change_left v tidy k (known_at old k) (known_at new k) refl (A.changes k) (v.cell k) K.cell;
    present = λ n. K.present n ∙ homes n (standing_at (standing_of (known_at old k)) n) ∙ sym (ap (option_map (λ (s : StandingEntry). s.home)) (A.standing k n));
    told = λ n s is. by_old n s (standing_at (standing_of (known_at old k)) n) refl (sym (A.standing k n) ∙ is);
  } where
    home_kept : (b : Bool) (s : StandingEntry) → (cond b (standing_with s.version s.home true) s).home ≡ s.home
    home_kept true s = refl
    home_kept false s = refl

    homes : (n : ℕ) (x : Option StandingEntry) → option_map (λ (s : StandingEntry). s.home) x ≡ option_map (λ (s : StandingEntry). s.home) (option_map (heard_at (core_of p m) (known_at old k) n) x)
    homes n None = refl
    homes n (Some s) = ap Some (sym (home_kept ((s.home == core_of p m) && is_dead_by (known_at old k) n) s))

    tells : (n : ℕ) → (v.told k n ≡ true) ⊎ TellsItselfIn p m v k n → told k n ≡ true
    tells n h = (T.tells k n).1 h

    flag : (x y : Bool) → (y ≡ true → x ≡ true) → (x ≡ true → y ≡ true) → x ≡ y
    flag true true f g = refl
    flag false false f g = refl
    flag true false f g = sym (g refl)
    flag false true f g = f refl

    by_test : (n : ℕ) (s : StandingEntry) → standing_at (standing_of (known_at old k)) n ≡ Some s → (b : Bool) → ((s.home == core_of p m) && is_dead_by (known_at old k) n) ≡ b → told k n ≡ (cond b (standing_with s.version s.home true) s).told
    by_test n s is true e =
        let both = and_parts (s.home == core_of p m) (is_dead_by (known_at old k) n) e in
        let h = stands_of p m v k (known_at old k) K n s is in
        let here = member_of p h.0 m (h.2 ∙ eqb-true s.home (core_of p m) both.0) in
        tells n (inr (own, h.1 ∙ ap Some here, dead_is p v k (known_at old k) K n both.1))
    by_test n s is false e = flag (told k n) s.told
        (λ was. tells n (inl (K.told n s is ∙ was)))
        (λ now. ⊎_elim (λ was. sym (K.told n s is) ∙ was)
        (λ x. absurd (let st = present_of p m v k (known_at old k) K n m x.1 in
        let same : s ≡ st.0 = (let both : Some s ≡ Some st.0 = sym is ∙ st.1 in cc both) in
        let home : s.home ≡ core_of p m = ap (λ (y : StandingEntry). y.home) same ∙ st.2 in
        let yes = and_from (s.home == core_of p m) (is_dead_by (known_at old k) n) (eq-eqb s.home (core_of p m) home) (dead_by p v k (known_at old k) K n s is x.2) in
        let clash : true ≡ false = sym yes ∙ e in cc clash))
        ((T.tells k n).0 now))

    told_in : StandingEntry → Bool
    told_in s = s.told

    by_old : (n : ℕ) (s : StandingEntry) (x : Option StandingEntry) → standing_at (standing_of (known_at old k)) n ≡ x → option_map (heard_at (core_of p m) (known_at old k) n) x ≡ Some s → told k n ≡ s.told
    by_old n s None is heard = absurd (cc heard)
    by_old n s (Some x) is heard =
        let same : heard_at (core_of p m) (known_at old k) n x ≡ s = cc heard in
        by_test n x is ((x.home == core_of p m) && is_dead_by (known_at old k) n) refl ∙ ap told_in same
