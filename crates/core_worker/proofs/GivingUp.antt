-- A change that could not be written is given up: its place is free, it is in doubt, and the core has stopped.
use Rattle.std.proofs.Common.{◌≡◌, ◌≢◌, ◌⊎◌, inl, inr, ⊎_elim, ℕ, ◌+◌, ◌<◌, Bool, true, false, cond, List, Option, Some, None, refl, sym, ◌∙◌, ap, subst, arith}
use Rattle.std.specs.Prelude.{Vec}
use Rattle.std.specs.Global.{Global}
use Rattle.std.specs.declared.collections.VecDeque.{VecDeque}
use Rattle.std.proofs.lemmas.Bool.{eq-eqb, ne_eqb}
use Rattle.log_entry.specs.declared.entry.Entry.{Entry}
use Rattle.log_entry.specs.declared.entry.EntryName.{EntryName}
use Rattle.core_index.specs.Index.{known_at}
use Rattle.core_index.specs.Records.{block_of}
use Rattle.log_entry.specs.Spelling.{HasSpelling}
use Rattle.group_laws.specs.declared.types.Pending.{Pending}
use Rattle.group_laws.specs.Places.{Place, core_of, owner}
use Rattle.group_laws.specs.MemberViews.{View}
use Rattle.group_board.specs.Views.{after_give_up, IsSpentIn, IsTidyIn}
use Rattle.batch_leader.specs.declared.batch_buffer.BatchBuffer.{BatchBuffer}
use Rattle.lazy_alloc.specs.Sets.{Sets, SameChunks}
use Rattle.core_worker.specs.declared.types.Answer.{Answer}
use Rattle.core_worker.specs.declared.types.Leading.TheVariants as leads
use Rattle.core_worker.specs.declared.types.Place as places
use Rattle.core_worker.specs.declared.types.Place.TheVariants.{Free, Staged, Posted}
use Rattle.core_worker.specs.declared.worker.Worker.{Worker}
use Rattle.core_worker.specs.OwnPlaces.{place_at, key_in, is_busy, Replaces}
use Rattle.core_worker.specs.KeyTies.{KnowsKey, IsStagedBlock}
use Rattle.core_worker.specs.Ties.{LeadsAt}
use Rattle.core_worker.specs.Order.{PointsAt, InOrder, MayLeadStopped}
use Rattle.core_worker.specs.Refusals.{HasAnswerRoom}
use Rattle.core_worker.specs.Beginning.{HoldsAside}
use Rattle.core_worker.specs.Hearing.{HearsAll}
use Rattle.core_worker.specs.Outbox.{waiting_dead, as_told}
use Rattle.core_worker.proofs.Heard.{hears_none, hears_all}
use Rattle.core_worker.proofs.Tidied.{tidied_knows, spent_last}
use Rattle.core_worker.proofs.Freeing.{Frees}
use Rattle.core_worker.proofs.MailKept.{told_by, mail_tidy, mail_still, still_then, still_same, still_tidied}
use Rattle.core_worker.proofs.NamesAgreeing.{agrees_tidied}
use Rattle.core_worker.proofs.FreedOrder.{FreesInOrder, room_let_go}

-- no chunk differs where the allocator is the same
pub same_chunks : (a : Sets) → SameChunks a a
same_chunks a = record { layout_is = refl; part_is = refl; free = λ j. refl; classes = λ j. refl; due = λ j. refl }

-- the view's cell of a key that the two rules leave alone
module _ (p : Place) (m : ℕ) (v : View) (w : Worker) (H : HoldsAside p m v w) (O : InOrder p m v w) (slot number key lines : ℕ) (lt : slot < 8) (was : place_at w.places.items slot ≡ Posted number key lines) (e : Entry) (mine : e.key ≡ key) (pends : v.pending key ≡ Some (record { entry = e; slot = Some slot })) where
  key_was : key_in (place_at w.places.items slot) ≡ Some key
  key_was = ap key_in was

  abbrev doubt : Pending
  doubt = record { entry = e; slot = None }

  module _ (last : ℕ → ℕ) (told dead : ℕ → ℕ → Bool) (T : IsTidyIn p m (after_give_up e v) last told dead) (b : BatchBuffer) (nothing : w.leading ≡ leads.Nothing b) (ps : Vec places.Place Global) (given_out : VecDeque Answer Global) (R : Replaces w.places.items ps.items slot Free)
      (room : (n : ℕ) → HasAnswerRoom (n + 1) w → HasAnswerRoom n (record w { places = ps; answers = given_out; stopped = true })) where
    abbrev view : View
    view = record (after_give_up e v) { last = last; told = told; dead = dead }

    abbrev given : Worker
    given = record w { places = ps; answers = given_out; stopped = true }

    abbrev all : List EntryName
    all = waiting_dead w.notices.items

    here : (k : ℕ) → k ≡ key → view.pending k ≡ Some doubt
    here k same = ap (λ c. cond c (Some doubt) (v.pending k)) (eq-eqb k e.key (same ∙ sym mine))

    other : (k : ℕ) → k ≢ key → view.pending k ≡ v.pending k
    other k ne = ap (λ c. cond c (Some doubt) (v.pending k)) (ne_eqb k e.key (λ same. ne (same ∙ mine)))

    hears : HearsAll (core_of p m) w.index w.index
    hears = hears_all (core_of p m) w.index w.index (hears_none (core_of p m) w.index) (λ n waits. O.heard n.key n.version waits)

    knows_before : (k : ℕ) → owner p k ≡ m → (w.stopped ≡ false) ⊎ (is_busy w.places.items k ≡ true) → KnowsKey p (as_told w (after_give_up e v)) k (known_at w.index k)
    knows_before k own which = let K = H.keys k own which in record { last = K.last; cell = K.cell; present = K.present; told = K.told }

    spent : (k : ℕ) → owner p k ≡ m → k ≢ key → (w.stopped ≡ false) ⊎ (is_busy w.places.items k ≡ true) → IsSpentIn p m (after_give_up e v) k → v.last k ≡ 0
    spent k own ne which s =
        let none : v.pending k ≡ None = sym (other k ne) ∙ s.3 in
        spent_last p m (as_told w (after_give_up e v)) k (known_at w.index k) (knows_before k own which) (⊎_elim (λ r. H.remembers r k own none) (λ busy. O.recalls k own busy none) which) s

    knows_after : (k : ℕ) → owner p k ≡ m → k ≢ key → (w.stopped ≡ false) ⊎ (is_busy w.places.items k ≡ true) → KnowsKey p (as_told w view) k (known_at w.index k)
    knows_after k own ne which = tidied_knows p m (as_told w (after_give_up e v)) last (told_by all told) dead (mail_tidy p m (after_give_up e v) all last told dead T) w.index w.index hears k own (spent k own ne which) (knows_before k own which)

    not_here : (q : ℕ) (s : IsStagedBlock v w.places.items q) → s.slot ≡ slot → ⊥
    not_here q s at = (let both : Posted number key lines ≡ Staged s.number s.entry s.value = sym was ∙ ap (place_at w.places.items) (sym at) ∙ s.place in cc both)

    pub gives_up : Frees p m key slot v view w given
    gives_up = record {
      places = R;
      layout = refl;
      core = refl;
      log = refl;
      cleaning = inr refl;
      cleans = λ had. inl refl;
      runs = λ r. absurd (cc r);
      spelled = H.spelled;
      room = λ k ne. omega arith;
      knows = knows_after;
      knows_here = λ own r. absurd (cc r);
      mail = mail_still p m v view w.winds_down w.notices.items (still_then p m v (after_give_up e v) view (still_same p m v (after_give_up e v) refl refl refl refl refl) (still_tidied p m (after_give_up e v) last told dead T)) H.mail;
      remembers = λ r. absurd (cc r);
      last = λ k own ne busy. (knows_after k own ne (inr busy)).last ∙ sym (H.keys k own (inr busy)).last;
      cell = λ k ne. refl;
      pending = other;
      gone = λ q has. (let both : Some q ≡ Some doubt = sym has ∙ here key refl in ap slot_or both, refl);
      sets = H.sets;
      chunks = same_chunks w.allocator;
      less = λ q used. used;
      blocks = λ q d has. has;
      others = λ q d has ne. has;
      held = λ q d has. (H.blocks.held q d has).used;
      staged = λ q s ne. (H.blocks.staged q s).0.used;
      only = λ q d has used. has;
      only_staged = λ q s at used. not_here q s at;
      allows = record { kept = refl; flying = refl; doomed = λ k n d. d; blocks = λ q d has. has };
      leads = record { seat = H.leads.seat; place = H.leads.place; number = H.leads.number; at = subst (LeadsAt H.leads.seat view) (sym nothing) (let had : LeadsAt H.leads.seat v (leads.Nothing b) = subst (LeadsAt H.leads.seat v) nothing H.leads.at in (had.0, had.1, λ whole. absurd (cc whole))) };
      space = λ r. absurd (cc r);
      broken = λ is. refl;
      lost = λ is. refl;
      flight = record { led = H.flight.led; stops = λ on. refl; fails = λ on. inl refl };
      unlost = λ off. off;
      names = λ s r. absurd (cc r);
    } where
      slot_or : Option Pending → Option ℕ
      slot_or None = None
      slot_or (Some q) = q.slot

    told_still : (k n : ℕ) → view.present k n ≡ None → told k n ≡ false
    told_still k n none = by (told k n) refl where
      by : (t : Bool) → told k n ≡ t → told k n ≡ false
      by false is = is
      by true is = absurd (⊎_elim
          (λ before. (let both : true ≡ false = sym before ∙ O.told k n none in cc both))
          (λ x. (let here = x.1 in let both : Some m ≡ None = sym here ∙ none in cc both))
          ((T.tells k n).0 is))

    pending_of : (q : Pending) → view.pending key ≡ Some q → q ≡ doubt
    pending_of q has = (let both : Some q ≡ Some doubt = sym has ∙ here key refl in cc both)

    pub gives_up_order : FreesInOrder p m key v view w given
    gives_up_order = record {
      block = λ k ne. refl;
      forgets = λ k ne. refl;
      last = λ k q ne has. kept k (⊎_elim (λ x. absurd (let s = x.0.3 in let both : None ≡ Some q = sym s ∙ other k ne ∙ has in cc both)) (λ same. same) (T.keeps k));
      heard = O.heard;
      told = told_still;
      versions = O.versions;
      mine = O.mine;
      single = λ q d has same. ⊎_elim
          (λ is. inl (ap (λ (n : ℕ). block_of (known_at w.index n)) (sym same) ∙ is))
          (λ points. inr (subst (λ (o : Option Pending). PointsAt o q) (sym (here key refl)) (subst (λ (o : Option Pending). PointsAt o q) (ap v.pending same ∙ pends) points)))
          (O.single q d has);
      distinct = λ q points is. O.distinct key q (subst (λ (o : Option Pending). PointsAt o q) (sym pends) (subst (λ (o : Option Pending). PointsAt o q) (here key refl) points)) is;
      next = λ q has. (
        ap (λ (y : Pending). y.entry.version) (pending_of q has) ∙ O.next key _ pends ∙ ap (λ (n : ℕ). n + 1) (sym (⊎_elim (λ x. absurd (let s = x.0.3 in let both : None ≡ Some doubt = sym s ∙ here key refl in cc both)) (λ same. same) (T.keeps key))),
        subst (λ (y : Pending). HasSpelling y.entry) (sym (pending_of q has)) (O.spelled key _ pends),
      );
      answers = room_let_go w given slot key key_was (let eight = H.eight in omega (arith, eight, lt)) R refl refl room O.answers;
      hand = O.hand;
      stops = λ s. subst MayLeadStopped (sym nothing) tt;
      agrees = agrees_tidied p m (after_give_up e v) last told dead T O.agrees;
      log = λ r. absurd (cc r);
      names = λ r. absurd (cc r);
    } where
      kept : (k : ℕ) → last k ≡ v.last k → last k ≡ v.last k
      kept k same = same
