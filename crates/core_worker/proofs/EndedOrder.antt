-- What the end of a cleaning leaves in order.
use Rattle.std.proofs.Common.{◌≡◌, ◌≢◌, inl, inr, ⊎_elim, ℕ, ◌+◌, ◌==◌, ◌&&◌, eqb, Bool, true, false, cond, List, Option, Some, None, refl, sym, ◌∙◌, ap, subst, arith}
use Rattle.std.proofs.lemmas.Bool.{eq-eqb, eqb-true}
use Rattle.log_entry.specs.declared.entry.EntryName.{EntryName}
use Rattle.core_index.specs.Index.{known_at}
use Rattle.core_index.specs.Records.{block_of}
use Rattle.log_standing.specs.declared.types.Copies.{Copies}
use Rattle.log_standing.specs.NameCounts.{one_fewer, count_in, told_in, copies_at, count_of, is_told, times_in}
use Rattle.pm_region.specs.State.{State}
use Rattle.core_log.specs.Walking.{entries_in}
use Rattle.log_cleaner.specs.Clearing.{ClearingState, IsReady}
use Rattle.log_cleaner.specs.Dropping.{lowered, one_less}
use Rattle.group_laws.specs.declared.types.Pending.{Pending}
use Rattle.group_laws.specs.Places.{Place, core_of, owner}
use Rattle.group_laws.specs.Updates.{has}
use Rattle.group_laws.specs.MemberViews.{View}
use Rattle.group_laws.proofs.Names.{without_was, without_stays}
use Rattle.group_board.specs.Views.{after_retire, IsTidyIn}
use Rattle.core_worker.specs.declared.worker.Worker.{Worker}
use Rattle.core_worker.specs.GoneNames.{is_forgotten, KnowsAll}
use Rattle.core_worker.specs.Hearing.{HearsAll}
use Rattle.core_worker.specs.EndsCleaning.{EndsIn}
use Rattle.core_worker.specs.Order.{InOrder, PointsAt}
use Rattle.core_worker.specs.Outbox.{mailing, waiting_dead}
use Rattle.core_worker.specs.LogNames.{KnowsBy}
use Rattle.core_worker.specs.StandingTies.{IsNamedIn, KnowsDead, NamesAgree, HearsOwn}
use Rattle.core_worker.specs.Ties.{Holds}
use Rattle.core_worker.proofs.EndedKeys.{changes_restarted}
use Rattle.core_worker.proofs.EndedHolds as ended
use Rattle.core_worker.proofs.HeardMail.{told_still}
use Rattle.core_worker.proofs.HeardStands.{block_lost, low_lost, stood_lost}
use Rattle.core_worker.proofs.LogNames.{dead_after, retired}
use Rattle.core_worker.proofs.MailKept.{own_told}
use Rattle.core_worker.proofs.NamesAgreeing.{agrees_tidied}

module _ (p : Place) (m : ℕ) (v u : View) (w x : Worker) (c : ClearingState) (H : Holds p m v w) (O : InOrder p m v w) (E : EndsIn p m v u w x c) where
  abbrev left : View
  left = after_retire p m c.doomed v

  abbrev T : IsTidyIn p m left E.tidied.0 E.tidied.1 E.tidied.2
  T = E.tidied.3

  abbrev told : ℕ → ℕ → Bool
  told = E.tidied.1

  abbrev dead : ℕ → ℕ → Bool
  dead = E.tidied.2

  view_is : u ≡ record left { last = E.tidied.0; told = E.tidied.1; dead = E.tidied.2 }
  view_is = E.tidied.4

  abbrev all : List EntryName
  all = waiting_dead w.notices.items

  Q : KnowsAll p m (mailing all u) x.places.items x.index
  Q = ended.after p m v u w x c H O E

  A : HearsAll (core_of p m) E.ends.mid x.index
  A = ended.heard p m v u w x c H O E

  -- what is left of the names
  present_before : (k n h : ℕ) → left.present k n ≡ Some h → (v.present k n ≡ Some h) × (has c.doomed k n ≡ false)
  present_before k n h is = by (eqb (owner p k) m) refl (has c.doomed k n) refl where
    by : (a : Bool) → eqb (owner p k) m ≡ a → (b : Bool) → has c.doomed k n ≡ b → (v.present k n ≡ Some h) × (has c.doomed k n ≡ false)
    by true s true t = absurd (let q : None ≡ Some h = sym (λ i. cond (s i && t i) None (v.present k n)) ∙ is in cc q)
    by true s false t = (sym (λ i. cond (s i && t i) None (v.present k n)) ∙ is, t)
    by false s b t = absurd (let was : v.present k n ≡ Some h = sym (ap (λ (x : Bool). cond (x && has c.doomed k n) None (v.present k n)) s) ∙ is in let q : true ≡ false = sym (eq-eqb (owner p k) m (O.agrees.mine k n h was)) ∙ s in cc q)

  told_before : (b t : Bool) → cond b false t ≡ true → t ≡ true
  told_before true t is = absurd (cc is)
  told_before false t is = is

  dead_before : (k n : ℕ) → left.dead k n ≡ true → (v.dead k n ≡ true) × (has c.doomed k n ≡ false)
  dead_before k n is = by (has c.doomed k n) refl where
    by : (b : Bool) → has c.doomed k n ≡ b → (v.dead k n ≡ true) × (has c.doomed k n ≡ false)
    by true e = absurd (let q : false ≡ true = sym (ap (λ (b : Bool). cond b false (v.dead k n)) e) ∙ is in cc q)
    by false e = (sym (ap (λ (b : Bool). cond b false (v.dead k n)) e) ∙ is, e)

  dead_now : (k n : ℕ) → v.dead k n ≡ true → has c.doomed k n ≡ false → dead k n ≡ true
  dead_now k n dies off = (T.learns k n).1 (inl (ap (λ (b : Bool). cond b false (v.dead k n)) off ∙ dies))

  named : (k n : ℕ) → has c.doomed k n ≡ false → IsNamedIn v.kept k n → IsNamedIn left.kept k n
  named k n off y = (y.0, without_stays c.doomed v.kept y.0 ((λ i. has c.doomed (y.2 i) (y.3 i)) ∙ off) y.1, y.2, y.3)

  agrees_left : NamesAgree p m left.kept left.present left.told left.dead
  agrees_left = record {
    bodies = λ e f has_e has_f key version. O.agrees.bodies e f (without_was c.doomed v.kept e has_e).0 (without_was c.doomed v.kept f has_f).0 key version;
    mine = λ k n h is. O.agrees.mine k n h (present_before k n h is).0;
    dead_told = λ k n own dies. let was = dead_before k n dies in by k n (eqb (owner p k) m && has c.doomed k n) ((λ i. eqb (owner p k) m && was.1 i) ∙ no (eqb (owner p k) m)) refl (O.agrees.dead_told k n own was.0);
    stands = λ k n own dies. let was = dead_before k n dies in (λ i. cond (eqb (owner p k) m && was.1 i) None (v.present k n)) ∙ ap (λ (b : Bool). cond b None (v.present k n)) (no (eqb (owner p k) m)) ∙ O.agrees.stands k n own was.0;
  } where
    no : (b : Bool) → (b && false) ≡ false
    no true = refl
    no false = refl

    by : (k n : ℕ) (b : Bool) → (eqb (owner p k) m && has c.doomed k n) ≡ false → (eqb (owner p k) m && has c.doomed k n) ≡ b → v.told k n ≡ true → cond (eqb (owner p k) m && has c.doomed k n) false (v.told k n) ≡ true
    by k n b off e was = ap (λ (b : Bool). cond b false (v.told k n)) off ∙ was

  pub agrees_now : NamesAgree p m u.kept u.present u.told u.dead
  agrees_now = subst (λ (y : View). NamesAgree p m y.kept y.present y.told y.dead) (sym view_is) (agrees_tidied p m left E.tidied.0 told dead T agrees_left)

  -- what stands, as it was told
  told_dropped : (k n : ℕ) → is_told E.ends.dropped k n ≡ true → (is_told w.standing k n ≡ true) × (has c.doomed k n ≡ false)
  told_dropped k n is = by (times_in c.names k n == 0) refl where
    lowers : (o : Option Copies) → told_in (lowered o) ≡ true → (told_in o ≡ true) × (count_in o ≢ 1)
    lowers None t = absurd (cc t)
    lowers (Some y) t = first (y.count == 1) refl t where
      first : (b : Bool) → (y.count == 1) ≡ b → told_in (one_less y) ≡ true → (y.dead ≡ true) × (y.count ≢ 1)
      first true e t = absurd (let q : false ≡ true = sym (ap (λ (b : Bool). told_in (cond b None (Some (one_fewer y)))) e) ∙ t in cc q)
      first false e t = (sym (ap (λ (b : Bool). told_in (cond b None (Some (one_fewer y)))) e) ∙ t, λ one. (let q : true ≡ false = sym (eq-eqb y.count 1 one) ∙ e in cc q))

    by : (b : Bool) → (times_in c.names k n == 0) ≡ b → (is_told w.standing k n ≡ true) × (has c.doomed k n ≡ false)
    by true none = (sym (ap told_in (E.ends.drops k n ∙ ap (λ (b : Bool). cond b (copies_at w.standing k n) (lowered (copies_at w.standing k n))) none)) ∙ is, off (has c.doomed k n) refl) where
      off : (b : Bool) → has c.doomed k n ≡ b → has c.doomed k n ≡ false
      off false e = e
      off true e = absurd (let some = (E.may k n e).noted in let zero_times = eqb-true (times_in c.names k n) 0 none in omega (arith, some, zero_times))
    by false some =
        let had = lowers (copies_at w.standing k n) (sym (ap told_in (E.ends.drops k n ∙ ap (λ (b : Bool). cond b (copies_at w.standing k n) (lowered (copies_at w.standing k n))) some)) ∙ is) in
        (had.0, off (has c.doomed k n) refl had.1)
      where
        off : (b : Bool) → has c.doomed k n ≡ b → count_of w.standing k n ≢ 1 → has c.doomed k n ≡ false
        off false e more = e
        off true e more = absurd (more (E.may k n e).lone)

  dead_left : KnowsDead m v.kept v.present (mailing all v).told v.dead w.standing → KnowsDead m left.kept left.present (after_retire p m c.doomed (mailing all v)).told left.dead E.ends.dropped
  dead_left L = record {
    deaths = λ k n t. let d = told_dropped k n t in ap (λ (b : Bool). cond b false (v.dead k n)) d.1 ∙ L.deaths k n d.0;
    buried = λ k n dies. let d = dead_before k n dies in named k n d.1 (L.buried k n d.0);
    own = λ k n here. let d = present_before k n m here in named k n d.1 (L.own k n d.0);
    heard = λ k n here t. let d = present_before k n m here in ap (λ (b : Bool). cond b false (v.dead k n)) d.1 ∙ L.heard k n d.0 (told_before (eqb (owner p k) m && has c.doomed k n) ((mailing all v).told k n) t);
  }

  tells : HearsOwn (core_of p m) E.ends.mid E.ends.dropped x.standing
  tells = subst (λ (n : ℕ). HearsOwn n E.ends.mid E.ends.dropped x.standing) H.core E.ends.tells

  pub knows_dead : w.winds_down ≡ false → KnowsDead m u.kept u.present u.told u.dead x.standing
  knows_dead on =
      let D = O.log E.runs on in
      let R = dead_after p m w.own_gone.items (mailing all v) (after_retire p m c.doomed (mailing all v)) (mailing all u) w.places.items x.places.items w.index x.index (ended.before p m v u w x c H O E) (ended.goes p m v u w x c H O E) E.ends.dropped x.standing tells
      (dead_left (record { deaths = D.deaths; buried = D.buried; own = D.own; heard = λ k n is t. D.heard k n is (own_told p m v w.winds_down w.notices.items H.mail k n is t) })) in
      record { deaths = R.deaths; buried = R.buried; own = R.own; heard = λ k n is t. R.heard k n is (told_still (has all k n) (u.told k n) t) }

  -- what stands in the log, where the region tells
  pub names_now : (s : State) → IsReady s w.log w.standing c → KnowsBy m v w.standing → KnowsBy m u x.standing
  names_now s ready L =
      let R = (retired p m (entries_in s w.log c.chunk) c w.own_gone.items (mailing all v) (mailing all u) w.places.items x.places.items w.index x.index w.standing x.standing (ended.before p m v u w x c H O E)
      (record { stands = L.stands; all = L.all; deaths = L.deaths; buried = L.buried; own = L.own; heard = λ k n is t. L.heard k n is (own_told p m v w.winds_down w.notices.items H.mail k n is t) })
      E.own (ended.tidied_all p m v u w x c H O E) (record { gathered = ready.gathered; copied = ready.copied; dropped = E.ends.dropped; drops = E.ends.drops; mid = E.ends.mid; loses = E.ends.loses; heard = A; tells = tells })).1 in
      record { stands = R.stands; all = R.all; deaths = R.deaths; buried = R.buried; own = R.own; heard = λ k n is t. R.heard k n is (told_still (has all k n) (u.told k n) t) }

  -- what the records have of blocks
  block_is : (k : ℕ) → block_of (known_at x.index k) ≡ block_of (known_at w.index k)
  block_is = block_lost (core_of p m) w.own_gone.items w.places.items x.places.items w.index E.ends.mid x.index E.ends.loses A

  told_now : (k n : ℕ) → u.present k n ≡ None → u.told k n ≡ false
  told_now k n none = ap (λ (y : View). y.told k n) view_is ∙ by (told k n) refl where
    absent : left.present k n ≡ None
    absent = sym (ap (λ (y : View). y.present k n) view_is) ∙ none

    before : (b : Bool) → (eqb (owner p k) m && has c.doomed k n) ≡ b → left.told k n ≡ true → ⊥
    before true e t = (let both : false ≡ true = sym (ap (λ (b : Bool). cond b false (v.told k n)) e) ∙ t in cc both)
    before false e t =
        let gone : v.present k n ≡ None = sym (ap (λ (b : Bool). cond b None (v.present k n)) e) ∙ absent in
        let both : false ≡ true = sym (O.told k n gone) ∙ sym (ap (λ (b : Bool). cond b false (v.told k n)) e) ∙ t in
        cc both

    by : (b : Bool) → told k n ≡ b → told k n ≡ false
    by false e = e
    by true e = absurd (⊎_elim
        (λ was. before (eqb (owner p k) m && has c.doomed k n) refl was)
        (λ own. let both : None ≡ Some m = sym absent ∙ own.1 in cc both)
        ((T.tells k n).0 e))

  pending_is : (k : ℕ) → u.pending k ≡ v.pending k
  pending_is k = ap (λ (y : View). y.pending k) view_is

  last_is : (k : ℕ) (q : Pending) → v.pending k ≡ Some q → u.last k ≡ v.last k
  last_is k q has = ap (λ (y : View). y.last k) view_is ∙ ⊎_elim (λ spent. absurd (let both : None ≡ Some q = sym spent.0.3 ∙ has in cc both)) (λ same. same) (T.keeps k)

  pub ended_order : InOrder p m u x
  ended_order = subst (λ (y : Worker). InOrder p m u y) (sym E.same) (record {
    owned = λ q b has. O.owned q b (sym (ap (λ (y : View). y.blocks q) view_is) ∙ has);
    single = λ q b has. ⊎_elim (λ here. inl (block_is b.key ∙ here)) (λ points. inr (subst (λ (o : Option Pending). PointsAt o q) (sym (pending_is b.key)) points)) (O.single q b (sym (ap (λ (y : View). y.blocks q) view_is) ∙ has));
    distinct = λ k q points here. O.distinct k q (subst (λ (o : Option Pending). PointsAt o q) (pending_is k) points) (sym (block_is k) ∙ here);
    heard = Q.heard;
    told = told_now;
    versions = low_lost (core_of p m) w.own_gone.items w.places.items x.places.items w.index E.ends.mid x.index E.ends.loses A O.versions;
    mine = λ k n s is. let t = stood_lost (core_of p m) w.own_gone.items w.places.items x.places.items w.index E.ends.mid x.index E.ends.loses A k n s is in O.mine k n t.0 t.1;
    next = λ k q has. let was = sym (pending_is k) ∙ has in O.next k q was ∙ ap (λ (n : ℕ). n + 1) (sym (last_is k q was));
    spelled = λ k q has. O.spelled k q (sym (pending_is k) ∙ has);
    recalls = λ k own busy none. Q.remembers k own none;
    answers = (let room = O.answers in let same = changes_restarted (is_forgotten w.own_gone.items w.places.items E.ends.loses.mid) w.places.items x.places.items E.ends.loses.forgets.count E.ends.loses.forgets.places in omega (arith, room, same));
    hand = O.hand;
    stops = O.stops;
    agrees = agrees_now;
    log = λ r on. knows_dead on;
    names = λ r on. (let had = O.names r on in let more = E.ends.room in omega (arith, had, more));
  })
