-- What is known of the names of the own log where some are told dead, and where a chunk is given up.
use Rattle.std.proofs.Common.{◌≡◌, ◌≢◌, ◌⊎◌, inl, inr, ⊎_elim, ℕ, suc, ◌+◌, ◌-◌, ◌<◌, ◌==◌, ◌&&◌, ◌||◌, not, eqb, Bool, true, false, cond, List, [], ◌∷◌, length, get_or, take, Option, Some, None, option_map, refl, sym, ◌∙◌, ap, subst, arith}
use Rattle.std.proofs.lemmas.Bool.{cases_eq, eqb-true, eq-eqb, ne_eqb, and_parts, and_from, or_cases}
use Rattle.std.proofs.lemmas.List.Sums.{sum_by-cons}
use Rattle.log_entry.specs.declared.entry.Entry.{Entry}
use Rattle.log_entry.specs.declared.entry.EntryName.{EntryName}
use Rattle.core_index.specs.declared.types.StandingEntry.{StandingEntry}
use Rattle.core_index.specs.Index.{known_at}
use Rattle.core_index.specs.Records.{KeyRecord, Awaits, standing_at, standing_of, standing_with}
use Rattle.core_index.specs.Slots as slots
use Rattle.core_index.proofs.Clients.{found_version}
use Rattle.log_standing.specs.declared.types.Copies.{Copies}
use Rattle.log_standing.specs.NameCounts.{StandingState, name_eq, copies_at, count_in, count_of, is_told, killed, wants, bit, times_in, one_fewer, Changes, tally_without, LowersFloors}
use Rattle.log_standing.specs.NameCounts as counts
use Rattle.log_standing.specs.ChunkCounts.{is_named, has_name}
use Rattle.log_standing.proofs.Clients.{same_name}
use Rattle.log_cleaner.specs.Clearing.{ClearingState, IsGathered, is_doomed}
use Rattle.log_cleaner.specs.Copying.{awaits, left_to_copy}
use Rattle.log_cleaner.specs.Dropping.{lowered, Drops}
use Rattle.group_laws.specs.State.{Notices}
use Rattle.group_laws.specs.Updates.{has}
use Rattle.group_laws.specs.Places.{Place, core_of, owner}
use Rattle.group_laws.specs.MemberViews.{View}
use Rattle.group_laws.proofs.Names.{without_was, without_stays}
use Rattle.group_board.specs.Views.{IsTidyIn, TidiedIn, TellsItselfIn, after_receive, after_retire}
use Rattle.group_board.specs.Assurances.{IsHeard}
use Rattle.core_worker.specs.declared.types.Place as places
use Rattle.core_worker.specs.KeyTies.{KnowsKey}
use Rattle.core_worker.specs.StandingTies.{IsNamedIn, KnowsDead, HearsOwn}
use Rattle.log_cleaner.proofs.Between.{kill_tally}
use Rattle.log_cleaner.proofs.TallyLaws.{keeps_both, keeps_itself}
use Rattle.core_worker.specs.GoneNames.{LosesIn, KnowsAll, LetsNamesGo}
use Rattle.core_worker.specs.LogNames.{KnowsNames, KnowsBy, KillsNames, HearsNotices, LosesChunk, AreOwnOf}
use Rattle.core_worker.proofs.HeardNames.{stands_by, dies_by, awaits_by}
use Rattle.core_worker.proofs.Settling.{same_flag}
use Rattle.core_worker.proofs.Tidied.{member_of, present_of, stands_of, dead_is, dead_by}
use Rattle.core_worker.proofs.GoneLaws.{has_more}
use Rattle.core_worker.proofs.GoneKeys.{settled, tidy_settled, knows_settled, knows_after, known_other}

abbrev none : EntryName
none = record { key = 0; version = 0 }

name_way : (a b k n : ℕ) → name_eq (a, b) (k, n) ≡ (eqb a k && eqb b n)
name_way a b k n = refl

-- names are told dead one after another
pub kills_first : (st : StandingState) → KillsNames [] st st
kills_first st = record { copies = λ k n. refl; settled = refl; room = refl; count = refl; tally = keeps_itself st }

killed_twice : (o : Option Copies) → option_map killed (option_map killed o) ≡ option_map killed o
killed_twice None = refl
killed_twice (Some c) = refl

pub kills_more : (ns : List EntryName) (i : ℕ) → i < length ns → (old mid new : StandingState) → KillsNames (take i ns) old mid
    → Changes mid new (get_or ns i none).key (get_or ns i none).version (option_map killed (copies_at mid (get_or ns i none).key (get_or ns i none).version)) → new.settled ≡ mid.settled → new.room ≡ mid.room → length new.entries ≡ length mid.entries → new.tally ≡ tally_without mid (get_or ns i none).key (get_or ns i none).version → LowersFloors mid new (get_or ns i none).key (get_or ns i none).version → KillsNames (take (i + 1) ns) old new
kills_more ns i lt old mid new K C settled room count tally floors = subst (λ (j : ℕ). KillsNames (take j ns) old new) (let e : suc i ≡ i + 1 = omega arith in e) (record {
  copies = λ k n. C k n ∙ by k n (name_eq (name.key, name.version) (k, n)) refl ∙ ap (λ (b : Bool). cond b (option_map killed (copies_at old k n)) (copies_at old k n)) (sym (has_more ns i lt k n));
  settled = settled ∙ K.settled;
  room = room ∙ K.room;
  count = count ∙ K.count;
  tally = keeps_both old mid new K.tally (kill_tally mid new name.key name.version C tally floors);
}) where
  name : EntryName
  name = get_or ns i none

  or_true : (b : Bool) → (b || true) ≡ true
  or_true true = refl
  or_true false = refl

  or_false : (b : Bool) → (b || false) ≡ b
  or_false true = refl
  or_false false = refl

  again : (b : Bool) (o : Option Copies) → option_map killed (cond b (option_map killed o) o) ≡ option_map killed o
  again true o = killed_twice o
  again false o = refl

  by : (k n : ℕ) (b : Bool) → name_eq ((get_or ns i none).key, (get_or ns i none).version) (k, n) ≡ b
      → cond (name_eq ((get_or ns i none).key, (get_or ns i none).version) (k, n)) (option_map killed (copies_at mid (get_or ns i none).key (get_or ns i none).version)) (copies_at mid k n)
      ≡ cond (has (take i ns) k n || (eqb (get_or ns i none).key k && eqb (get_or ns i none).version n)) (option_map killed (copies_at old k n)) (copies_at old k n)
  by k n true e =
      let same = same_name (get_or ns i none).key (get_or ns i none).version k n e in
      ap (λ (c : Bool). cond c (option_map killed (copies_at mid (get_or ns i none).key (get_or ns i none).version)) (copies_at mid k n)) e
      ∙ (λ t. option_map killed (copies_at mid (same.0 t) (same.1 t)))
      ∙ ap (option_map killed) (K.copies k n) ∙ again (has (take i ns) k n) (copies_at old k n)
      ∙ sym (ap (λ (c : Bool). cond (has (take i ns) k n || c) (option_map killed (copies_at old k n)) (copies_at old k n)) e ∙ ap (λ (c : Bool). cond c (option_map killed (copies_at old k n)) (copies_at old k n)) (or_true (has (take i ns) k n)))
  by k n false e =
      ap (λ (c : Bool). cond c (option_map killed (copies_at mid (get_or ns i none).key (get_or ns i none).version)) (copies_at mid k n)) e ∙ K.copies k n
      ∙ sym (ap (λ (c : Bool). cond (has (take i ns) k n || c) (option_map killed (copies_at old k n)) (copies_at old k n)) e ∙ ap (λ (c : Bool). cond c (option_map killed (copies_at old k n)) (copies_at old k n)) (or_false (has (take i ns) k n)))

-- the own dead names are told at last
module _ (p : Place) (m : ℕ) (x : View) (last : ℕ → ℕ) (told dead : ℕ → ℕ → Bool) (T : IsTidyIn p m x last told dead) (mid : List (ℕ × slots.Place)) (K : (k : ℕ) → owner p k ≡ m → KnowsKey p x k (known_at mid k))
    (foreign : (k n : ℕ) → owner p k ≢ m → Awaits (known_at mid k) (core_of p m) n → ⊥) (mine : (k n h : ℕ) → x.present k n ≡ Some h → owner p k ≡ m) where
  learns : (k n : ℕ) → (x.dead k n ≡ true) ⊎ TellsItselfIn p m x k n → dead k n ≡ true
  learns k n which = (T.learns k n).1 which

  awaited : (k n : ℕ) → owner p k ≡ m → Awaits (known_at mid k) (core_of p m) n → TellsItselfIn p m x k n
  awaited k n own a =
      let at = stands_by (known_at mid k) (core_of p m) n a in
      let h = stands_of p m x k (known_at mid k) (K k own) n (standing_with n (core_of p m) false) at in
      let here = member_of p h.0 m h.2 in
      (own, h.1 ∙ ap Some here, dead_is p x k (known_at mid k) (K k own) n (dies_by (known_at mid k) (core_of p m) n a))

  -- whatever the region tells
  module _ (st st1 : StandingState) (tells : HearsOwn (core_of p m) mid st st1) (L : KnowsDead m x.kept x.present x.told x.dead st) where
    pub heard_dead : KnowsDead m x.kept x.present told dead st1
    heard_dead = record {
      deaths = λ k n t. ⊎_elim
          (λ before. learns k n (inl (L.deaths k n before)))
          (λ a. ⊎_elim (λ own. learns k n (inr (awaited k n own a))) (λ ne. absurd (foreign k n ne a)) (cases_eq (owner p k) m))
          (tells.told k n t);
      buried = λ k n dies. ⊎_elim (λ before. L.buried k n before) (λ y. L.own k n y.1) ((T.learns k n).0 dies);
      own = L.own;
      heard = λ k n is t. ⊎_elim (λ before. learns k n (inl (L.heard k n is before))) (λ y. learns k n (inr y)) ((T.tells k n).0 t);
    }

  module _ (st st1 : StandingState) (tells : HearsOwn (core_of p m) mid st st1) (L : KnowsBy m x st) where
    told_dies : (k n : ℕ) → is_told st1 k n ≡ true → dead k n ≡ true
    told_dies k n t = ⊎_elim
        (λ before. learns k n (inl (sym (L.deaths k n) ∙ before)))
        (λ a. ⊎_elim (λ own. learns k n (inr (awaited k n own a))) (λ ne. absurd (foreign k n ne a)) (cases_eq (owner p k) m))
        (tells.told k n t)

    by_itself : (k n : ℕ) → TellsItselfIn p m x k n → (is_told st k n ≡ true) ⊎ Awaits (known_at mid k) (core_of p m) n
    by_itself k n y = by s.0.told refl where
      s : (z : StandingEntry) × (standing_at (standing_of (known_at mid k)) n ≡ Some z) × (z.home ≡ core_of p m)
      s = present_of p m x k (known_at mid k) (K k y.0) n m y.1

      by : (b : Bool) → (present_of p m x k (known_at mid k) (K k y.0) n m y.1).0.told ≡ b → (is_told st k n ≡ true) ⊎ Awaits (known_at mid k) (core_of p m) n
      by true t = let z = present_of p m x k (known_at mid k) (K k y.0) n m y.1 in inl (L.deaths k n ∙ L.heard k n y.1 ((K k y.0).told n z.0 z.1 ∙ t))
      by false t =
          let z = present_of p m x k (known_at mid k) (K k y.0) n m y.1 in
          let dies = dead_by p x k (known_at mid k) (K k y.0) n z.0 z.1 y.2 in
          let version = found_version (standing_of (known_at mid k)) n z.0 z.1 in
          let same : z.0 ≡ standing_with n (core_of p m) false = (λ i. standing_with (version i) (z.2 i) (t i)) in
          inr (awaits_by (known_at mid k) (core_of p m) n (z.1 ∙ ap (λ (w : StandingEntry). Some w) same) dies)

    dies_told : (k n : ℕ) → dead k n ≡ true → is_told st1 k n ≡ true
    dies_told k n dies = ⊎_elim
        (λ before. tells.all k n (L.all k n (L.buried k n before)) (inl (L.deaths k n ∙ before)))
        (λ y. tells.all k n (L.all k n (L.own k n y.1)) (by_itself k n y))
        ((T.learns k n).0 dies)

    pub heard_log : KnowsNames m x.kept x.present told dead st1
    heard_log = record {
      stands = λ k n some. L.stands k n (let c = tells.counts k n in omega (arith, c, some));
      all = λ k n is. (let c = tells.counts k n in let some = L.all k n is in omega (arith, c, some));
      deaths = λ k n. same_flag (is_told st1 k n) (dead k n) (told_dies k n) (dies_told k n);
      buried = λ k n dies. ⊎_elim (λ before. L.buried k n before) (λ y. L.own k n y.1) ((T.learns k n).0 dies);
      own = L.own;
      heard = λ k n is t. ⊎_elim (λ before. learns k n (inl (L.heard k n is before))) (λ y. learns k n (inr y)) ((T.tells k n).0 t);
    }

-- names of the own log are told dead
killed_count : (b : Bool) (o : Option Copies) → count_in (cond b (option_map killed o) o) ≡ count_in o
killed_count true None = refl
killed_count true (Some c) = refl
killed_count false o = refl

killed_told : (o : Option Copies) → 0 < count_in o → counts.told_in (option_map killed o) ≡ true
killed_told None some = absurd (omega (arith, some))
killed_told (Some c) some = refl

module _ (p : Place) (m from : ℕ) (n : Notices) (v : View) (old new : StandingState) (L : KnowsBy m v old) (H : IsHeard p m from v n) (X : KillsNames n.dead old new) where
  abbrev after : View
  after = after_receive p m n v

  count_same : (k i : ℕ) → count_of new k i ≡ count_of old k i
  count_same k i = ap count_in (X.copies k i) ∙ killed_count (has n.dead k i) (copies_at old k i)

  deaths_now : (k i : ℕ) → is_told new k i ≡ after.dead k i
  deaths_now k i = ap counts.told_in (X.copies k i) ∙ by (has n.dead k i) refl where
    by : (b : Bool) → has n.dead k i ≡ b → counts.told_in (cond (has n.dead k i) (option_map killed (copies_at old k i)) (copies_at old k i)) ≡ cond (has n.dead k i) true (v.dead k i)
    by true e = ap (λ (b : Bool). counts.told_in (cond b (option_map killed (copies_at old k i)) (copies_at old k i))) e ∙ killed_told (copies_at old k i) (L.all k i (H.dead k i e)) ∙ sym (ap (λ (b : Bool). cond b true (v.dead k i)) e)
    by false e = ap (λ (b : Bool). counts.told_in (cond b (option_map killed (copies_at old k i)) (copies_at old k i))) e ∙ L.deaths k i ∙ sym (ap (λ (b : Bool). cond b true (v.dead k i)) e)

  present_was : (k i h : ℕ) → after.present k i ≡ Some h → v.present k i ≡ Some h
  present_was k i h = by (eqb (owner p k) m && has n.gone k i) where
    by : (b : Bool) → cond b None (v.present k i) ≡ Some h → v.present k i ≡ Some h
    by true is = absurd (cc is)
    by false is = is

  told_was : (k i : ℕ) → after.told k i ≡ true → v.told k i ≡ true
  told_was k i = by (eqb (owner p k) m && has n.gone k i) where
    by : (b : Bool) → cond b false (v.told k i) ≡ true → v.told k i ≡ true
    by true is = absurd (cc is)
    by false is = is

  dead_more : (k i : ℕ) → v.dead k i ≡ true → after.dead k i ≡ true
  dead_more k i d = by (has n.dead k i) where
    by : (b : Bool) → cond b true (v.dead k i) ≡ true
    by true = refl
    by false = d

  pub killed_names : KnowsBy m after new
  killed_names = record {
    stands = λ k i some. L.stands k i (let c = count_same k i in omega (arith, c, some));
    all = λ k i is. (let c = count_same k i in let some = L.all k i is in omega (arith, c, some));
    deaths = deaths_now;
    buried = λ k i dies. by k i (has n.dead k i) refl dies;
    own = λ k i is. L.own k i (present_was k i m is);
    heard = λ k i is t. dead_more k i (L.heard k i (present_was k i m is) (told_was k i t));
  } where
    by : (k i : ℕ) (b : Bool) → has n.dead k i ≡ b → cond (has n.dead k i) true (v.dead k i) ≡ true → IsNamedIn v.kept k i
    by k i true e dies = H.dead k i e
    by k i false e dies = L.buried k i (sym (ap (λ (b : Bool). cond b true (v.dead k i)) e) ∙ dies)

  pub loses_gone : LosesIn p m n.gone v after
  loses_gone = record {
    last = λ k. refl;
    cell = λ k. refl;
    pending = λ k. refl;
    blocks = refl;
    present = λ k i own. ap (λ (b : Bool). cond (b && has n.gone k i) None (v.present k i)) (eq-eqb (owner p k) m own);
    told = λ k i own. ap (λ (b : Bool). cond (b && has n.gone k i) false (v.told k i)) (eq-eqb (owner p k) m own);
    was = present_was;
    own = H.own;
  }

-- what both come to
module _ (p : Place) (m : ℕ) (ns : List EntryName) (v v' u : View) (ps qs : List places.Place) (es ix : List (ℕ × slots.Place)) (Q : KnowsAll p m v ps es) (G : LetsNamesGo p m ns v v' u ps qs es ix) (st st1 : StandingState) (tells : HearsOwn (core_of p m) G.mid st st1) (L : KnowsBy m v' st) where
  abbrev at : View
  at = record v' { last = G.tidied.0 }

  pub names_after : KnowsBy m u st1
  names_after = subst (λ (x : View). KnowsBy m x st1) (sym G.tidied.4)
      (heard_log p m at G.tidied.0 G.tidied.1 G.tidied.2
      (tidy_settled p m v v' ns G.loses G.tidied.0 G.tidied.1 G.tidied.2 G.tidied.3 ps qs es G.names.mid G.mid G.names.lacks G.names.forgets Q.keys Q.quiet Q.posted Q.remembers)
      G.mid
      (knows_settled p m v v' ns G.loses G.tidied.0 G.tidied.1 G.tidied.2 G.tidied.3 ps qs es G.names.mid G.mid G.names.lacks G.names.forgets Q.keys Q.quiet Q.posted Q.remembers)
      (λ k n ne a. Q.heard k n (subst (λ (o : Option KeyRecord). Awaits o (core_of p m) n) (known_other p m ns v v' u ps qs es ix Q G k ne) a))
      (λ k n h is. Q.mine k n h (G.loses.was k n h is))
      st st1 tells (record { stands = L.stands; all = L.all; deaths = L.deaths; buried = L.buried; own = L.own; heard = L.heard }))

module _ (p : Place) (m : ℕ) (ns : List EntryName) (v v' u : View) (ps qs : List places.Place) (es ix : List (ℕ × slots.Place)) (Q : KnowsAll p m v ps es) (G : LetsNamesGo p m ns v v' u ps qs es ix) (st st1 : StandingState) (tells : HearsOwn (core_of p m) G.mid st st1) (L : KnowsDead m v'.kept v'.present v'.told v'.dead st) where
  pub dead_after : KnowsDead m u.kept u.present u.told u.dead st1
  dead_after = subst (λ (x : View). KnowsDead m x.kept x.present x.told x.dead st1) (sym G.tidied.4)
      (heard_dead p m (record v' { last = G.tidied.0 }) G.tidied.0 G.tidied.1 G.tidied.2
      (tidy_settled p m v v' ns G.loses G.tidied.0 G.tidied.1 G.tidied.2 G.tidied.3 ps qs es G.names.mid G.mid G.names.lacks G.names.forgets Q.keys Q.quiet Q.posted Q.remembers)
      G.mid
      (knows_settled p m v v' ns G.loses G.tidied.0 G.tidied.1 G.tidied.2 G.tidied.3 ps qs es G.names.mid G.mid G.names.lacks G.names.forgets Q.keys Q.quiet Q.posted Q.remembers)
      (λ k n ne a. Q.heard k n (subst (λ (o : Option KeyRecord). Awaits o (core_of p m) n) (known_other p m ns v v' u ps qs es ix Q G k ne) a))
      (λ k n h is. Q.mine k n h (G.loses.was k n h is))
      st st1 tells (record { deaths = L.deaths; buried = L.buried; own = L.own; heard = L.heard }))

pub received : (p : Place) (m from : ℕ) (n : Notices) (v u : View) (ps qs : List places.Place) (es ix : List (ℕ × slots.Place)) (old new : StandingState) → KnowsAll p m v ps es → KnowsBy m v old → IsHeard p m from v n → TidiedIn p m (after_receive p m n v) u
    → HearsNotices (core_of p m) n ps qs es ix old new → KnowsAll p m u qs ix × KnowsBy m u new
received p m from n v u ps qs es ix old new Q L H T X =
    let G : LetsNamesGo p m n.gone v (after_receive p m n v) u ps qs es ix = record { loses = loses_gone p m from n v old X.killed L H X.kills; tidied = T; mid = X.mid; names = X.loses; heard = X.heard } in
    (knows_after p m n.gone v (after_receive p m n v) u ps qs es ix Q G, names_after p m n.gone v (after_receive p m n v) u ps qs es ix Q G X.killed new X.tells (killed_names p m from n v old X.killed L H X.kills))

-- A chunk is given up.
named_any : (xs : List (ℕ × Entry)) (st : StandingState) (k n : ℕ) → has_name xs k n ≡ true → left_to_copy st xs ≡ [] → wants st k n ≡ false
named_any [] st k n e l = absurd (cc e)
named_any (x ∷ xs) st k n e l = left_by (awaits st x) refl l (named_any xs st k n) e where
  left_by : (b : Bool) → awaits st x ≡ b → cond (awaits st x) (x ∷ left_to_copy st xs) (left_to_copy st xs) ≡ [] → (has_name xs k n ≡ true → left_to_copy st xs ≡ [] → wants st k n ≡ false) → has_name (x ∷ xs) k n ≡ true → wants st k n ≡ false
  left_by true w z again is = absurd (let q : (x ∷ left_to_copy st xs) ≡ [] = sym (ap (λ (b : Bool). cond b (x ∷ left_to_copy st xs) (left_to_copy st xs)) w) ∙ z in cc q)
  left_by false w z again is = ⊎_elim
      (λ here. let same = same_name x.1.key x.1.version k n here in sym (λ i. wants st (same.0 i) (same.1 i)) ∙ w)
      (λ more. again more (sym (ap (λ (b : Bool). cond b (x ∷ left_to_copy st xs) (left_to_copy st xs)) w) ∙ z))
      (or_cases (is_named k n x) (has_name xs k n) is)

times_has : (ns : List EntryName) (k n : ℕ) → has ns k n ≡ false → times_in ns k n ≡ 0
times_has [] k n e = refl
times_has (x ∷ xs) k n e = by (name_eq (x.key, x.version) (k, n)) refl (times_has xs k n) e where
  by : (b : Bool) → name_eq (x.key, x.version) (k, n) ≡ b → (has xs k n ≡ false → times_in xs k n ≡ 0) → (name_eq (x.key, x.version) (k, n) || has xs k n) ≡ false → times_in (x ∷ xs) k n ≡ 0
  by true t again z = absurd (let q : true ≡ false = sym (ap (λ (b : Bool). b || has xs k n) t) ∙ z in cc q)
  by false t again z =
      let all = sum_by-cons (λ (y : EntryName). cond {A = ℕ} (name_eq (y.key, y.version) (k, n)) 1 0) x xs in
      let here = ap (λ (b : Bool). cond {A = ℕ} b 1 0) t in
      let rest = again (sym (ap (λ (b : Bool). b || has xs k n) t) ∙ z) in
      omega (arith, all, here, rest)

pub has_times : (ns : List EntryName) (k n : ℕ) → has ns k n ≡ true → 0 < times_in ns k n
has_times [] k n e = absurd (cc e)
has_times (x ∷ xs) k n e = by (name_eq (x.key, x.version) (k, n)) refl (has_times xs k n) e where
  by : (b : Bool) → name_eq (x.key, x.version) (k, n) ≡ b → (has xs k n ≡ true → 0 < times_in xs k n) → (name_eq (x.key, x.version) (k, n) || has xs k n) ≡ true → 0 < times_in (x ∷ xs) k n
  by true t again z =
      let all = sum_by-cons (λ (y : EntryName). cond {A = ℕ} (name_eq (y.key, y.version) (k, n)) 1 0) x xs in
      let here = ap (λ (b : Bool). cond {A = ℕ} b 1 0) t in
      omega (arith, all, here)
  by false t again z =
      let all = sum_by-cons (λ (y : EntryName). cond {A = ℕ} (name_eq (y.key, y.version) (k, n)) 1 0) x xs in
      let rest = again (sym (ap (λ (b : Bool). b || has xs k n) t) ∙ z) in
      omega (arith, all, rest)

-- what a copy less leaves of a name that has one at least
module _ (o : Option Copies) where
  less_one : count_in o ≡ 1 → lowered o ≡ None
  less_one = by o where
    by : (x : Option Copies) → count_in x ≡ 1 → lowered x ≡ None
    by None e = refl
    by (Some c) e = ap (λ (b : Bool). cond b None (Some (one_fewer c))) (eq-eqb c.count 1 e)

  less_more : count_in o ≢ 1 → (count_in (lowered o) ≡ count_in o - 1) × (counts.told_in (lowered o) ≡ counts.told_in o)
  less_more = by o where
    by : (x : Option Copies) → count_in x ≢ 1 → (count_in (lowered x) ≡ count_in x - 1) × (counts.told_in (lowered x) ≡ counts.told_in x)
    by None ne = (refl, refl)
    by (Some c) ne =
        let other = ap (λ (b : Bool). cond b None (Some (one_fewer c))) (ne_eqb c.count 1 ne) in
        (ap count_in other, ap counts.told_in other)

bit_some : (b : Bool) → 0 < bit b → b ≡ true
bit_some true lt = refl
bit_some false lt = absurd (omega (arith, lt))

module _ (p : Place) (m : ℕ) (es : List (ℕ × Entry)) (c : ClearingState) (v : View) (old new : StandingState) (L : KnowsBy m v old) (mine : (k n h : ℕ) → v.present k n ≡ Some h → owner p k ≡ m) (R : IsGathered old es c) (copied : left_to_copy old es ≡ []) (D : Drops old new c.names) where
  abbrev left : View
  left = after_retire p m c.doomed v

  -- a doomed name was told dead and stands in this chunk alone
  doomed_is : (k n : ℕ) → has c.doomed k n ≡ true → (has_name es k n ≡ true) × (is_told old k n ≡ true) × (count_of old k n ≡ 1)
  doomed_is k n e =
      let some = has_times c.doomed k n e in
      let both = and_parts (has_name es k n) (is_doomed old k n) (bit_some (has_name es k n && is_doomed old k n) (let q = R.doomed k n in omega (arith, some, q))) in
      let more = and_parts (is_told old k n) (count_of old k n == 1) both.1 in
      (both.0, more.0, eqb-true (count_of old k n) 1 more.1)

  -- and the other way round, since nothing is left to be copied
  lone_doomed : (k n : ℕ) → has_name es k n ≡ true → count_of old k n ≡ 1 → has c.doomed k n ≡ true
  lone_doomed k n e one = by (has c.doomed k n) refl where
    told : is_told old k n ≡ true
    told = by_told (is_told old k n) refl where
      by_told : (b : Bool) → is_told old k n ≡ b → b ≡ true
      by_told true t = refl
      by_told false t = absurd (let w : wants old k n ≡ true = and_from (count_of old k n == 1) (not (is_told old k n)) (eq-eqb (count_of old k n) 1 one) (ap not t) in let q : true ≡ false = sym w ∙ named_any es old k n e copied in cc q)

    by : (b : Bool) → has c.doomed k n ≡ b → has c.doomed k n ≡ true
    by true t = t
    by false t = absurd (let zero_times = times_has c.doomed k n t in let q = R.doomed k n in
        let yes : bit (has_name es k n && is_doomed old k n) ≡ 1 = ap bit (and_from (has_name es k n) (is_doomed old k n) e (and_from (is_told old k n) (count_of old k n == 1) told (eq-eqb (count_of old k n) 1 one))) in
        omega (arith, zero_times, q, yes))

  dropped_here : (k n : ℕ) → has_name es k n ≡ true → copies_at new k n ≡ lowered (copies_at old k n)
  dropped_here k n e = D k n ∙ ap (λ (b : Bool). cond b (copies_at old k n) (lowered (copies_at old k n))) (ne_eqb (times_in c.names k n) 0 (λ z. let q = R.names k n in let one = ap bit e in omega (arith, z, q, one)))

  dropped_else : (k n : ℕ) → has_name es k n ≡ false → copies_at new k n ≡ copies_at old k n
  dropped_else k n e = D k n ∙ ap (λ (b : Bool). cond b (copies_at old k n) (lowered (copies_at old k n))) (eq-eqb (times_in c.names k n) 0 (R.names k n ∙ ap bit e))

  -- what becomes of a name
  pub vanishes : (k n : ℕ) → has c.doomed k n ≡ true → copies_at new k n ≡ None
  vanishes k n e = let d = doomed_is k n e in dropped_here k n d.0 ∙ less_one (copies_at old k n) d.2

  remains : (k n : ℕ) → has c.doomed k n ≡ false → (is_told new k n ≡ is_told old k n) × (0 < count_of old k n → 0 < count_of new k n) × (0 < count_of new k n → 0 < count_of old k n)
  remains k n e = by (has_name es k n) refl where
    by : (b : Bool) → has_name es k n ≡ b → (is_told new k n ≡ is_told old k n) × (0 < count_of old k n → 0 < count_of new k n) × (0 < count_of new k n → 0 < count_of old k n)
    by false t = let same = dropped_else k n t in (ap counts.told_in same, (λ some. let q = ap count_in same in omega (arith, q, some)), (λ some. let q = ap count_in same in omega (arith, q, some)))
    by true t =
        let many : count_of old k n ≢ 1 = λ one. let q : true ≡ false = sym (lone_doomed k n t one) ∙ e in cc q in
        let less = less_more (copies_at old k n) many in
        let here = dropped_here k n t in
        let count : count_of new k n ≡ count_of old k n - 1 = ap count_in here ∙ less.0 in
        (ap counts.told_in here ∙ less.1, (λ some. omega (arith, count, some, many)), (λ some. omega (arith, count, some)))

  named_was : (k n : ℕ) → IsNamedIn left.kept k n → IsNamedIn v.kept k n × (has c.doomed k n ≡ false)
  named_was k n x = let w = without_was c.doomed v.kept x.0 x.1 in ((x.0, w.0, x.2, x.3), sym (λ i. has c.doomed (x.2 i) (x.3 i)) ∙ w.1)

  named_stays : (k n : ℕ) → has c.doomed k n ≡ false → IsNamedIn v.kept k n → IsNamedIn left.kept k n
  named_stays k n e x = (x.0, without_stays c.doomed v.kept x.0 ((λ i. has c.doomed (x.2 i) (x.3 i)) ∙ e) x.1, x.2, x.3)

  present_before : (k n h : ℕ) → left.present k n ≡ Some h → (v.present k n ≡ Some h) × (has c.doomed k n ≡ false)
  present_before k n h is = by (eqb (owner p k) m) refl (has c.doomed k n) refl where
    by : (a : Bool) → eqb (owner p k) m ≡ a → (b : Bool) → has c.doomed k n ≡ b → (v.present k n ≡ Some h) × (has c.doomed k n ≡ false)
    by true s true t = absurd (let q : None ≡ Some h = sym (λ i. cond (s i && t i) None (v.present k n)) ∙ is in cc q)
    by true s false t = (sym (λ i. cond (s i && t i) None (v.present k n)) ∙ is, t)
    by false s b t = absurd (let was : v.present k n ≡ Some h = sym (ap (λ (x : Bool). cond (x && has c.doomed k n) None (v.present k n)) s) ∙ is in let q : true ≡ false = sym (eq-eqb (owner p k) m (mine k n h was)) ∙ s in cc q)

  told_before : (k n : ℕ) → left.told k n ≡ true → v.told k n ≡ true
  told_before k n = by (eqb (owner p k) m && has c.doomed k n) where
    by : (b : Bool) → cond b false (v.told k n) ≡ true → v.told k n ≡ true
    by true is = absurd (cc is)
    by false is = is

  dead_is_now : (k n : ℕ) → has c.doomed k n ≡ false → left.dead k n ≡ v.dead k n
  dead_is_now k n e = ap (λ (b : Bool). cond b false (v.dead k n)) e

  deaths_then : (k n : ℕ) → is_told new k n ≡ left.dead k n
  deaths_then k n = by (has c.doomed k n) refl where
    by : (b : Bool) → has c.doomed k n ≡ b → is_told new k n ≡ left.dead k n
    by true e = ap counts.told_in (vanishes k n e) ∙ sym (ap (λ (b : Bool). cond b false (v.dead k n)) e)
    by false e = (remains k n e).0 ∙ L.deaths k n ∙ sym (dead_is_now k n e)

  buried_now : (k n : ℕ) → left.dead k n ≡ true → IsNamedIn left.kept k n
  buried_now k n dies = by (has c.doomed k n) refl where
    by : (b : Bool) → has c.doomed k n ≡ b → IsNamedIn left.kept k n
    by true e = absurd (let q : false ≡ true = sym (ap (λ (b : Bool). cond b false (v.dead k n)) e) ∙ dies in cc q)
    by false e = named_stays k n e (L.buried k n (sym (dead_is_now k n e) ∙ dies))

  stands_now : (k n : ℕ) → 0 < count_of new k n → IsNamedIn left.kept k n
  stands_now k n some = by (has c.doomed k n) refl where
    by : (b : Bool) → has c.doomed k n ≡ b → IsNamedIn left.kept k n
    by true e = absurd (let q = ap count_in (vanishes k n e) in omega (arith, q, some))
    by false e = named_stays k n e (L.stands k n ((remains k n e).2 some))

  pub left_names : KnowsBy m left new
  left_names = record {
    stands = stands_now;
    all = λ k n is. let w = named_was k n is in (remains k n w.1).1 (L.all k n w.0);
    deaths = deaths_then;
    buried = buried_now;
    own = λ k n is. let w = present_before k n m is in named_stays k n w.1 (L.own k n w.0);
    heard = λ k n is t. let w = present_before k n m is in dead_is_now k n w.1 ∙ L.heard k n w.0 (told_before k n t);
  }

  pub loses_doomed : (own : List EntryName) → AreOwnOf p m c.doomed own → LosesIn p m own v left
  loses_doomed own A = record {
    last = λ k. refl;
    cell = λ k. refl;
    pending = λ k. refl;
    blocks = refl;
    present = λ k n is. (λ i. cond (eq-eqb (owner p k) m is i && sym (A.same k n is) i) None (v.present k n));
    told = λ k n is. (λ i. cond (eq-eqb (owner p k) m is i && sym (A.same k n is) i) false (v.told k n));
    was = λ k n h is. (present_before k n h is).0;
    own = A.own;
  }

pub retired : (p : Place) (m : ℕ) (chunk : List (ℕ × Entry)) (c : ClearingState) (own : List EntryName) (v u : View) (ps qs : List places.Place) (es ix : List (ℕ × slots.Place)) (old new : StandingState) → KnowsAll p m v ps es → KnowsBy m v old → AreOwnOf p m c.doomed own
    → TidiedIn p m (after_retire p m c.doomed v) u → LosesChunk (core_of p m) chunk c own ps qs es ix old new → KnowsAll p m u qs ix × KnowsBy m u new
retired p m chunk c own v u ps qs es ix old new Q L A T X =
    let G : LetsNamesGo p m own v (after_retire p m c.doomed v) u ps qs es ix = record { loses = loses_doomed p m chunk c v old X.dropped L Q.mine X.gathered X.copied X.drops own A; tidied = T; mid = X.mid; names = X.loses; heard = X.heard } in
    (knows_after p m own v (after_retire p m c.doomed v) u ps qs es ix Q G, names_after p m own v (after_retire p m c.doomed v) u ps qs es ix Q G X.dropped new X.tells (left_names p m chunk c v old X.dropped L Q.mine X.gathered X.copied X.drops))
