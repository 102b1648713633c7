-- What stands by the region, and is in order, once another member's notices were taken in.
use Rattle.std.proofs.Common.{◌≡◌, inl, inr, ⊎_elim, ℕ, ◌+◌, ◌≤◌, ◌&&◌, not, eqb, Bool, true, false, cond, List, Option, Some, None, option_map, refl, sym, ◌∙◌, ap, arith}
use Rattle.std.specs.Prelude.{Vec}
use Rattle.std.specs.Global.{Global}
use Rattle.std.proofs.lemmas.Bool.{and_parts}
use Rattle.pm_region.specs.State.{State}
use Rattle.log_entry.specs.declared.entry.EntryName.{EntryName}
use Rattle.core_index.specs.Index.{known_at}
use Rattle.core_index.specs.Records.{KeyRecord, block_of, pointer_of, is_forgettable, is_tombstone, is_empty, last_of, standing_at, standing_of}
use Rattle.core_index.specs.Slots as slots
use Rattle.core_index.specs.declared.types.StandingEntry.{StandingEntry}
use Rattle.log_entry.specs.declared.entry.Body.{Body}
use Rattle.log_entry.specs.declared.entry.Body.TheVariants as bodies
use Rattle.log_standing.specs.NameCounts.{StandingState}
use Rattle.group_laws.specs.declared.types.Pending.{Pending}
use Rattle.group_laws.specs.Places.{Place, core_of, owner}
use Rattle.group_laws.specs.State.{Notices}
use Rattle.group_laws.specs.Updates.{has}
use Rattle.group_laws.specs.MemberViews.{View}
use Rattle.group_board.specs.Assurances.{IsHeard}
use Rattle.group_board.specs.Views.{after_receive, IsTidyIn}
use Rattle.licence.specs.Licence.{grounded}
use Rattle.licence.proofs.Clients.{allowed}
use Rattle.core_worker.specs.declared.types.Place as places
use Rattle.core_worker.specs.declared.worker.Worker.{Worker}
use Rattle.core_worker.specs.OwnPlaces.{place_at, is_free}
use Rattle.core_worker.specs.Ties.{Holds, Stands, LeadsNothing}
use Rattle.core_worker.specs.Order.{InOrder}
use Rattle.core_worker.specs.Outbox.{mailing, waiting_dead}
use Rattle.core_worker.specs.StandingTies.{KnowsDead, NamesAgree}
use Rattle.core_worker.specs.GoneNames.{lacking, names_key, is_out, is_forgotten, LosesNames}
use Rattle.core_worker.specs.Hearing.{heard_at, HearsAll}
use Rattle.core_worker.specs.LogNames.{KnowsNames, KnowsBy, NamesStand, HearsNotices}
use Rattle.core_worker.proofs.EndedKeys.{free_restarted}
use Rattle.core_worker.proofs.MailKept.{own_told}
use Rattle.core_worker.proofs.NamesStood.{names_more, names_heard}
use Rattle.core_worker.proofs.LogNames.{received, killed_names}
use Rattle.core_worker.proofs.Settling.{change_block}
use Rattle.core_worker.proofs.Tidied.{change_last}
use Rattle.core_worker.proofs.GoneKeys.{at_lacking}
use Rattle.core_worker.proofs.PostMoves.{count_same}
use Rattle.core_worker.proofs.HeardDead.{killed_count, killed_up, dead_killed, dead_after}
use Rattle.core_worker.proofs.HeardMail as mail

-- a key that is forgotten has no block
block_none : (o : Option KeyRecord) → is_forgettable o ≡ true → block_of o ≡ None
block_none None t = refl
block_none (Some r) t = by r.body (and_parts (is_tombstone r.body) (is_empty r.standing) t).0 where
  by : (b : Body) → is_tombstone b ≡ true → pointer_of b ≡ None
  by (bodies.Pointer q) e = absurd (cc e)
  by (bodies.Embedded u) e = refl
  by bodies.Tombstone e = refl

block_lacking : (ns : List EntryName) (k : ℕ) (o : Option KeyRecord) → block_of (option_map (lacking ns k) o) ≡ block_of o
block_lacking ns k None = refl
block_lacking ns k (Some r) = refl

last_lacking : (ns : List EntryName) (k : ℕ) (o : Option KeyRecord) → last_of (option_map (lacking ns k) o) ≡ last_of o
last_lacking ns k None = refl
last_lacking ns k (Some r) = refl

standing_lacking : (ns : List EntryName) (k i : ℕ) (o : Option KeyRecord) → standing_at (standing_of (option_map (lacking ns k) o)) i ≡ cond (has ns k i) None (standing_at (standing_of o) i)
standing_lacking ns k i None = by (has ns k i) where
  by : (b : Bool) → ◌≡◌ {A = Option StandingEntry} None (cond b None None)
  by true = refl
  by false = refl
standing_lacking ns k i (Some r) = at_lacking ns k i r.standing

module _ (home : ℕ) (ns : List EntryName) (ps qs : List places.Place) (es mid ix : List (ℕ × slots.Place)) (L : LosesNames ns ps qs es mid) (A : HearsAll home mid ix) where
  pub block_lost : (k : ℕ) → block_of (known_at ix k) ≡ block_of (known_at es k)
  block_lost k = change_block (known_at mid k) (known_at ix k) (A.changes k) ∙ by (is_forgotten ns ps L.mid k) refl (L.forgets.known k) where
    was : block_of (known_at L.mid k) ≡ block_of (known_at es k)
    was = ap block_of (L.lacks.known k) ∙ block_lacking ns k (known_at es k)

    by : (b : Bool) → is_forgotten ns ps L.mid k ≡ b → known_at mid k ≡ cond b None (known_at L.mid k) → block_of (known_at mid k) ≡ block_of (known_at es k)
    by true t e =
        let both = and_parts (names_key ns k) (is_forgettable (known_at L.mid k) && not (is_out ps k)) t in
        ap block_of e ∙ sym (block_none (known_at L.mid k) (and_parts (is_forgettable (known_at L.mid k)) (not (is_out ps k)) both.1).0) ∙ was
    by false t e = ap block_of e ∙ was

  -- no entry stands above the last version of its key
  pub low_lost : ((k i : ℕ) (s : StandingEntry) → standing_at (standing_of (known_at es k)) i ≡ Some s → i ≤ last_of (known_at es k)) → (k i : ℕ) (s : StandingEntry) → standing_at (standing_of (known_at ix k)) i ≡ Some s → i ≤ last_of (known_at ix k)
  low_lost low k i s is = by_mid (standing_at (standing_of (known_at mid k)) i) refl where
    last_is : last_of (known_at ix k) ≡ last_of (known_at mid k)
    last_is = change_last (known_at mid k) (known_at ix k) (A.changes k)

    by_has : (b : Bool) → has ns k i ≡ b → (t : StandingEntry) → cond (has ns k i) None (standing_at (standing_of (known_at es k)) i) ≡ Some t → i ≤ last_of (known_at es k)
    by_has true e t at = absurd (let both : None ≡ Some t = sym (ap (λ (b : Bool). cond b None (standing_at (standing_of (known_at es k)) i)) e) ∙ at in cc both)
    by_has false e t at = low k i t (sym (ap (λ (b : Bool). cond b None (standing_at (standing_of (known_at es k)) i)) e) ∙ at)

    by_test : (b : Bool) → known_at mid k ≡ cond b None (known_at L.mid k) → (t : StandingEntry) → standing_at (standing_of (known_at mid k)) i ≡ Some t → i ≤ last_of (known_at mid k)
    by_test true e t at = absurd (let both : None ≡ Some t = sym (ap (λ (o : Option KeyRecord). standing_at (standing_of o) i) e) ∙ at in cc both)
    by_test false e t at =
        let same : known_at mid k ≡ option_map (lacking ns k) (known_at es k) = e ∙ L.lacks.known k in
        let there : cond (has ns k i) None (standing_at (standing_of (known_at es k)) i) ≡ Some t = sym (standing_lacking ns k i (known_at es k)) ∙ sym (ap (λ (o : Option KeyRecord). standing_at (standing_of o) i) same) ∙ at in
        let le = by_has (has ns k i) refl t there in
        let last = ap last_of same ∙ last_lacking ns k (known_at es k) in
        omega (arith, le, last)

    by_mid : (o : Option StandingEntry) → standing_at (standing_of (known_at mid k)) i ≡ o → i ≤ last_of (known_at ix k)
    by_mid None at = absurd (let eq = A.standing k i in let both : Some s ≡ None = sym is ∙ eq ∙ ap (option_map (heard_at home (known_at mid k) i)) at in cc both)
    by_mid (Some t) at = (let le = by_test (is_forgotten ns ps L.mid k) (L.forgets.known k) t at in let eq = last_is in omega (arith, le, eq))

  -- what stands stood
  pub stood_lost : (k i : ℕ) (s : StandingEntry) → standing_at (standing_of (known_at ix k)) i ≡ Some s → (t : StandingEntry) × (standing_at (standing_of (known_at es k)) i ≡ Some t)
  stood_lost k i s is = by_mid (standing_at (standing_of (known_at mid k)) i) refl where
    by_has : (b : Bool) → has ns k i ≡ b → (t : StandingEntry) → cond (has ns k i) None (standing_at (standing_of (known_at es k)) i) ≡ Some t → (u : StandingEntry) × (standing_at (standing_of (known_at es k)) i ≡ Some u)
    by_has true e t at = absurd (let both : None ≡ Some t = sym (ap (λ (b : Bool). cond b None (standing_at (standing_of (known_at es k)) i)) e) ∙ at in cc both)
    by_has false e t at = (t, sym (ap (λ (b : Bool). cond b None (standing_at (standing_of (known_at es k)) i)) e) ∙ at)

    by_test : (b : Bool) → known_at mid k ≡ cond b None (known_at L.mid k) → (t : StandingEntry) → standing_at (standing_of (known_at mid k)) i ≡ Some t → (u : StandingEntry) × (standing_at (standing_of (known_at es k)) i ≡ Some u)
    by_test true e t at = absurd (let both : None ≡ Some t = sym (ap (λ (o : Option KeyRecord). standing_at (standing_of o) i) e) ∙ at in cc both)
    by_test false e t at = by_has (has ns k i) refl t (sym (standing_lacking ns k i (known_at es k)) ∙ sym (ap (λ (o : Option KeyRecord). standing_at (standing_of o) i) (e ∙ L.lacks.known k)) ∙ at)

    by_mid : (o : Option StandingEntry) → standing_at (standing_of (known_at mid k)) i ≡ o → (u : StandingEntry) × (standing_at (standing_of (known_at es k)) i ≡ Some u)
    by_mid None at = absurd (let eq = A.standing k i in let both : Some s ≡ None = sym is ∙ eq ∙ ap (option_map (heard_at home (known_at mid k) i)) at in cc both)
    by_mid (Some t) at = by_test (is_forgotten ns ps L.mid k) (L.forgets.known k) t at

module _ (p : Place) (m from : ℕ) (v : View) (w : Worker) (H : Holds p m v w) (O : InOrder p m v w) (runs : w.stopped ≡ false) (nothing : LeadsNothing w) (n : Notices) (A : IsHeard p m from v n)
    (ps : Vec places.Place Global) (ix : List (ℕ × slots.Place)) (st : StandingState) (X : HearsNotices (core_of p m) n w.places.items ps.items w.index ix w.standing st)
    (last : ℕ → ℕ) (told dead : ℕ → ℕ → Bool) (T : IsTidyIn p m (after_receive p m n v) last told dead) where
  abbrev all : List EntryName
  all = waiting_dead w.notices.items

  abbrev left : View
  left = after_receive p m n v

  abbrev view : View
  view = record left { last = last; told = told; dead = dead }

  abbrev heard : Worker
  heard = record w { index = ix; standing = st; places = ps }

  told_up : (b t : Bool) → t ≡ true → cond b true t ≡ true
  told_up true t e = refl
  told_up false t e = e

  -- what stands in the log
  knew : KnowsBy m v w.standing → KnowsBy m (mailing all v) w.standing
  knew L = record { stands = L.stands; all = L.all; deaths = L.deaths; buried = L.buried; own = L.own; heard = λ k i is t. L.heard k i is (own_told p m v w.winds_down w.notices.items H.mail k i is t) }

  pub heard_names : KnowsBy m v w.standing → KnowsNames m v.kept left.present told dead st
  heard_names L =
      let R = (received p m from n (mailing all v) (mailing all view) w.places.items ps.items w.index ix w.standing st (mail.knew_all p m from v w H O runs nothing n A ps ix st X last told dead T) (knew L) (mail.heard_all p m from v w H O runs nothing n A ps ix st X last told dead T) (mail.tidied_all p m from v w H O runs nothing n A ps ix st X last told dead T) X).1 in
      record { stands = R.stands; all = R.all; deaths = R.deaths; buried = R.buried; own = R.own; heard = λ k i is t. R.heard k i is (told_up (has all k i) (told k i) t) }

  names_now : (s : State) → NamesStand s m v.kept v.present v.told v.dead w.log w.standing w.clearing w.cleaning → NamesStand s m v.kept left.present told dead w.log st w.clearing w.cleaning
  names_now s N =
      let killed = killed_names p m from n (mailing all v) w.standing X.killed (knew N.knows) (mail.heard_all p m from v w H O runs nothing n A ps ix st X last told dead T) X.kills in
      let mid = names_more s m v.kept v.kept v.present left.present v.told (after_receive p m n (mailing all v)).told v.dead left.dead w.log w.standing X.killed w.clearing w.cleaning (killed_count n.dead w.standing X.killed X.kills) (λ k i some is. killed_up n.dead w.standing X.killed X.kills k i is) X.kills.settled X.kills.tally N
      (record { stands = killed.stands; all = killed.all; deaths = killed.deaths; buried = killed.buried; own = killed.own; heard = killed.heard }) in
      names_heard s m (core_of p m) X.mid v.kept v.kept left.present left.present (after_receive p m n (mailing all v)).told told left.dead dead w.log X.killed st w.clearing w.cleaning X.tells mid (heard_names N.knows)

  pub heard_stands : (s : State) → Stands s p m v w → Stands s p m view heard
  heard_stands s S = record {
    lies = S.lies;
    licensed = λ telling image may. allowed p m v view image (record { kept = refl; flying = refl; doomed = λ k i e. e; blocks = λ q b e. e }) (S.licensed telling image may);
    landed = λ unlost telling image may. allowed p m (grounded v) (grounded view) image (record { kept = refl; flying = refl; doomed = λ k i e. e; blocks = λ q b e. e }) (S.landed unlost telling image may);
    log = S.log;
    free = S.free;
    due = S.due;
    cut = S.cut;
    names = λ r on telling. names_now s (S.names r on telling);
  }

  -- and what is in order
  left_present : (k i h : ℕ) → left.present k i ≡ Some h → v.present k i ≡ Some h
  left_present k i h = by (eqb (owner p k) m && has n.gone k i) where
    by : (b : Bool) → cond b None (v.present k i) ≡ Some h → v.present k i ≡ Some h
    by true e = absurd (cc e)
    by false e = e

  left_told : (k i : ℕ) → left.present k i ≡ None → left.told k i ≡ true → v.present k i ≡ None × (v.told k i ≡ true)
  left_told k i = by (eqb (owner p k) m && has n.gone k i) where
    by : (b : Bool) → cond b None (v.present k i) ≡ None → cond b false (v.told k i) ≡ true → v.present k i ≡ None × (v.told k i ≡ true)
    by true e t = absurd (cc t)
    by false e t = (e, t)

  -- no gone name is one that stands here
  stays_here : (k i : ℕ) → v.present k i ≡ Some m → (eqb (owner p k) m && has n.gone k i) ≡ false
  stays_here k i here = by (eqb (owner p k) m && has n.gone k i) refl where
    by : (b : Bool) → (eqb (owner p k) m && has n.gone k i) ≡ b → b ≡ false
    by false e = refl
    by true e = absurd (let stood = A.stood k i (and_parts (eqb (owner p k) m) (has n.gone k i) e).1 in A.other (let both : Some from ≡ Some m = sym stood ∙ here in cc both))

  left_here : (k i : ℕ) → owner p k ≡ m → left.dead k i ≡ true → (v.dead k i ≡ true) × (v.present k i ≡ Some m)
  left_here k i own dies = by (has n.dead k i) refl dies where
    by : (b : Bool) → has n.dead k i ≡ b → cond (has n.dead k i) true (v.dead k i) ≡ true → (v.dead k i ≡ true) × (v.present k i ≡ Some m)
    by true e t = absurd (A.other (sym (A.theirs k i e) ∙ own))
    by false e t = (let d = sym (ap (λ (b : Bool). cond b true (v.dead k i)) e) ∙ t in (d, O.agrees.stands k i own d))

  agrees_now : NamesAgree p m v.kept left.present told dead
  agrees_now = record {
    bodies = O.agrees.bodies;
    mine = λ k i h is. O.agrees.mine k i h (left_present k i h is);
    dead_told = λ k i own dies. (T.tells k i).1 (⊎_elim
        (λ before. let x = left_here k i own before in inl (ap (λ (b : Bool). cond b false (v.told k i)) (stays_here k i x.1) ∙ O.agrees.dead_told k i own x.0))
        (λ itself. inr itself)
        ((T.learns k i).0 dies));
    stands = λ k i own dies. ⊎_elim
        (λ before. let x = left_here k i own before in ap (λ (b : Bool). cond b None (v.present k i)) (stays_here k i x.1) ∙ x.1)
        (λ itself. itself.1)
        ((T.learns k i).0 dies);
  }

  dead_now : KnowsDead m v.kept v.present v.told v.dead w.standing → KnowsDead m v.kept left.present told dead st
  dead_now D =
      let L : KnowsDead m v.kept v.present (mailing all v).told v.dead w.standing = record { deaths = D.deaths; buried = D.buried; own = D.own; heard = λ k i is t. D.heard k i is (own_told p m v w.winds_down w.notices.items H.mail k i is t) } in
      let heard_by = mail.heard_all p m from v w H O runs nothing n A ps ix st X last told dead T in
      let R = dead_after p m n.gone (mailing all v) (after_receive p m n (mailing all v)) (mailing all view) w.places.items ps.items w.index ix (mail.knew_all p m from v w H O runs nothing n A ps ix st X last told dead T) (mail.go p m from v w H O runs nothing n A ps ix st X last told dead T) X.killed st X.tells
      (dead_killed p m from n (mailing all v) w.standing X.killed L heard_by X.kills) in
      record { deaths = R.deaths; buried = R.buried; own = R.own; heard = λ k i is t. R.heard k i is (told_up (has all k i) (told k i) t) }

  pub last_pending : (k : ℕ) (q : Pending) → v.pending k ≡ Some q → last k ≡ v.last k
  last_pending k q has = ⊎_elim (λ x. absurd (let s = x.0.3 in let both : None ≡ Some q = sym s ∙ has in cc both)) (λ same. same) (T.keeps k)

  block_is : (k : ℕ) → block_of (known_at ix k) ≡ block_of (known_at w.index k)
  block_is = block_lost (core_of p m) n.gone w.places.items ps.items w.index X.mid ix X.loses X.heard

  told_still : (k i : ℕ) → left.present k i ≡ None → told k i ≡ false
  told_still k i none = by (told k i) refl where
    by : (b : Bool) → told k i ≡ b → b ≡ false
    by false e = refl
    by true e = absurd (⊎_elim
        (λ before. let x = left_told k i none before in let off = O.told k i x.0 in let on = x.1 in let both : true ≡ false = sym on ∙ off in cc both)
        (λ itself. let here = itself.1 in let both : None ≡ Some m = sym none ∙ here in cc both)
        ((T.tells k i).0 e))

  pub heard_order : InOrder p m view heard
  heard_order = record {
    owned = O.owned;
    single = λ q b has. ⊎_elim (λ is. inl (block_is b.key ∙ is)) (λ points. inr points) (O.single q b has);
    distinct = λ k q points is. O.distinct k q points (sym (block_is k) ∙ is);
    heard = (mail.knows_now p m from v w H O runs nothing n A ps ix st X last told dead T).heard;
    told = told_still;
    versions = low_lost (core_of p m) n.gone w.places.items ps.items w.index X.mid ix X.loses X.heard O.versions;
    mine = λ k i s is. let t = stood_lost (core_of p m) n.gone w.places.items ps.items w.index X.mid ix X.loses X.heard k i s is in O.mine k i t.0 t.1;
    next = λ k q has. O.next k q has ∙ ap (λ (i : ℕ). i + 1) (sym (last_pending k q has));
    spelled = O.spelled;
    recalls = λ k own busy none. (mail.knows_now p m from v w H O runs nothing n A ps ix st X last told dead T).remembers k own none;
    answers = (let room = O.answers in let same = count_same w.places.items ps.items X.loses.forgets.count (λ s. ap is_free (mail.place_is p m from v w H O runs nothing n A ps ix st X last told dead T s) ∙ free_restarted (is_forgotten n.gone w.places.items X.loses.mid) (place_at w.places.items s)) in omega (arith, room, same));
    hand = O.hand;
    stops = O.stops;
    agrees = agrees_now;
    log = λ r on. dead_now (O.log r on);
    names = λ r on. (let had = O.names r on in let kept = X.kills.room in let more = X.tells.room in omega (arith, had, kept, more));
  }
