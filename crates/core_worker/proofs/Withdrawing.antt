-- A posted change of a stopped core that nobody had taken is withdrawn: its place is free.
use Rattle.std.proofs.Common.{◌≡◌, ◌≢◌, ◌⊎◌, inl, ⊎_elim, ℕ, ◌+◌, Bool, true, false, cond, List, Option, Some, None, refl, sym, ◌∙◌, ap, subst, arith}
use Rattle.std.specs.Prelude.{IfSome}
use Rattle.std.proofs.lemmas.Bool.{eq-eqb, ne_eqb}
use Rattle.log_entry.specs.declared.entry.Entry.{Entry}
use Rattle.log_entry.specs.declared.entry.Body.{Body}
use Rattle.log_entry.specs.declared.entry.Body.TheVariants as bodies
use Rattle.core_index.specs.Index.{known_at}
use Rattle.core_index.specs.Records.{KeyRecord, block_of, pointer_of}
use Rattle.lazy_alloc.specs.Sets.{Sets, AreSets, block_is_used}
use Rattle.group_laws.specs.declared.types.Block.{Block}
use Rattle.group_laws.specs.declared.types.Pending.{Pending}
use Rattle.group_laws.specs.Places as groups
use Rattle.group_laws.specs.Steps.{points_at}
use Rattle.group_laws.specs.MemberViews.{View}
use Rattle.group_board.specs.Views.{after_withdraw}
use Rattle.core_worker.specs.declared.types.Leading.{Leading}
use Rattle.core_worker.specs.declared.types.Place.TheVariants.{Free, Staged, Posted}
use Rattle.core_worker.specs.declared.worker.Worker.{Worker}
use Rattle.core_worker.specs.OwnPlaces.{place_at, key_in, is_busy, Replaces}
use Rattle.core_worker.specs.KeyTies.{KnowsKey, Left, LeftIn, Offers, IsStagedBlock}
use Rattle.core_worker.specs.Refusals.{HasAnswerRoom}
use Rattle.core_worker.specs.Ties.{Holds, Leads, is_lost}
use Rattle.core_worker.specs.Order.{InOrder, PointsAt, MayLeadStopped}
use Rattle.core_worker.specs.Finishing.{PutsBackIf, IsFreed}
use Rattle.core_worker.specs.Stopping.{PutsAway}
use Rattle.core_worker.specs.Supplies.{under_way}
use Rattle.core_worker.proofs.UnderWay.{pledges_itself}
use Rattle.core_worker.proofs.CleaningKept.{stopped_none}
use Rattle.core_worker.proofs.Posts.{busy_by}
use Rattle.core_worker.proofs.PuttingBack.{put_chunks, put_count, put_less, put_gone, put_kept}
use Rattle.core_worker.proofs.Settling.{block_key, points_is, points_has}
use Rattle.core_worker.proofs.Dropping.{pointed, pointer_is}
use Rattle.core_worker.specs.Outbox.{as_told}
use Rattle.core_worker.proofs.MailKept.{mail_same}
use Rattle.core_worker.proofs.Freeing.{Frees}
use Rattle.core_worker.proofs.Flight.{led_on, stopped_flies}
use Rattle.core_worker.proofs.FreedOrder.{FreesInOrder, room_let_go}
use Rattle.core_worker.proofs.TakingBack.{Stood, stood, is_freed}

clash : {A : Type 0} (b : Bool) → b ≡ true → b ≡ false → A
clash b t f = absurd (let both : true ≡ false = sym t ∙ f in cc both)

offered : (v : View) (k q : ℕ) (b : Body) → Offers v k b → b ≡ bodies.Pointer q → (u : List ℕ) × (v.blocks q ≡ Some (record { key = k; bytes = u }))
offered v k q b o is = subst (λ (x : Body). Offers v k x) is o

-- the blocks but the withdrawn one
module _ (body : Body) (old : ℕ → Option Block) where
  abbrev rest_of : ℕ → Option Block
  rest_of q = cond (points_at body q) None (old q)

  kept_by : (c : Bool) (q : ℕ) (b : Block) → cond c None (old q) ≡ Some b → (c ≡ false) × (old q ≡ Some b)
  kept_by true q b e = absurd (cc e)
  kept_by false q b e = (refl, e)

  rest_was : (q : ℕ) (b : Block) → rest_of q ≡ Some b → old q ≡ Some b
  rest_was q b e = (kept_by (points_at body q) q b e).1

  rest_off : (q : ℕ) (b : Block) → rest_of q ≡ Some b → body ≡ bodies.Pointer q → ⊥
  rest_off q b e is = clash (points_at body q) (points_has body q is) (kept_by (points_at body q) q b e).0

  rest_other : (q : ℕ) (b : Block) → old q ≡ Some b → (body ≡ bodies.Pointer q → ⊥) → rest_of q ≡ Some b
  rest_other q b is off = by (points_at body q) refl where
    by : (c : Bool) → points_at body q ≡ c → rest_of q ≡ Some b
    by true e = absurd (off (points_is body q e))
    by false e = ap (λ (c : Bool). cond c None (old q)) e ∙ is

module _ (p : groups.Place) (m : ℕ) (v : View) (w : Worker) (H : Holds p m v w) (O : InOrder p m v w) (stopped : w.stopped ≡ true) (slot : ℕ) (e : Entry) (pends : v.pending e.key ≡ Some (record { entry = e; slot = Some slot })) where
  st : Stood p m v w slot e
  st = stood p m v w H slot e pends

  key_was : key_in (place_at w.places.items slot) ≡ Some e.key
  key_was = ap key_in st.place

  pub pending_used : IfSome (pointer_of e.body) (λ q. block_is_used w.allocator q ≡ true)
  pending_used = by (pointer_of e.body) refl where
    by : (o : Option ℕ) → pointer_of e.body ≡ o → IfSome o (λ q. block_is_used w.allocator q ≡ true)
    by None is = tt
    by (Some q) is = (let b = offered v e.key q e.body st.offers (pointed e.body q is) in (H.blocks.held q _ b.1).used)

  module _ (al : Sets) (sets : AreSets al) (P : PutsBackIf w.allocator al (pointer_of e.body)) (l : Leading) (leads : Leads p m (after_withdraw e v) l) (safe : is_lost l ≡ false) (was_safe : is_lost w.leading ≡ false) (may : MayLeadStopped l)
      (x : Worker) (rest : x ≡ record w { leading = l; allocator = al; places = x.places; answers = x.answers }) (R : Replaces w.places.items x.places.items slot Free) (room : (n : ℕ) → HasAnswerRoom (n + 1) w → HasAnswerRoom n x) where
    abbrev view : View
    view = after_withdraw e v

    abbrev withdrawn : Worker
    withdrawn = record w { leading = l; allocator = al; places = x.places; answers = x.answers }

    gone_here : (k : ℕ) → k ≡ e.key → view.pending k ≡ None
    gone_here k same = ap (λ c. cond c None (v.pending k)) (eq-eqb k e.key same)

    pending_other : (k : ℕ) → k ≢ e.key → view.pending k ≡ v.pending k
    pending_other k ne = ap (λ c. cond c None (v.pending k)) (ne_eqb k e.key ne)

    blocks_other : (q : ℕ) (b : Block) → v.blocks q ≡ Some b → b.key ≢ e.key → view.blocks q ≡ Some b
    blocks_other q b is ne = rest_other e.body v.blocks q b is (λ points. let o = offered v e.key q e.body st.offers points in ne (block_key v q e.key b o.0 is o.1))

    left_other : (k : ℕ) → k ≢ e.key → (o : Option KeyRecord) (c : Option (List ℕ)) → LeftIn v k o c → LeftIn view k o c
    left_other k ne None c lf = lf
    left_other k ne (Some r) c lf = by r.body lf where
      by : (b : Body) → Left v k b c → Left view k b c
      by (bodies.Pointer q) lf = (lf.0, lf.1, blocks_other q _ lf.2 ne)
      by (bodies.Embedded y) lf = lf
      by bodies.Tombstone lf = lf

    knows_other : (k : ℕ) → groups.owner p k ≡ m → k ≢ e.key → (w.stopped ≡ false) ⊎ (is_busy w.places.items k ≡ true) → KnowsKey p (as_told w view) k (known_at w.index k)
    knows_other k own ne which = let J = H.keys k own which in record { last = J.last; cell = left_other k ne (known_at w.index k) (v.cell k) J.cell; present = J.present; told = J.told }

    not_here : (q : ℕ) (s : IsStagedBlock v w.places.items q) → s.slot ≡ slot → ⊥
    not_here q s at = (let both : Posted st.number e.key st.lines ≡ Staged s.number s.entry s.value = sym st.place ∙ ap (place_at w.places.items) (sym at) ∙ s.place in cc both)

    withdraws : Frees p m e.key slot v view w withdrawn
    withdraws = record {
      places = R;
      layout = refl;
      core = refl;
      log = refl;
      cleaning = inl (pledges_itself (under_way w) (under_way w) refl);
      cleans = λ had. inl (stopped_none w stopped);
      runs = λ r. r;
      spelled = H.spelled;
      room = λ k ne. omega arith;
      knows = knows_other;
      knows_here = λ own r. clash w.stopped stopped r;
      mail = mail_same p m v view w.winds_down w.notices.items refl refl refl refl refl H.mail;
      remembers = λ r. clash w.stopped stopped r;
      last = λ k own ne busy. refl;
      cell = λ k ne. refl;
      pending = pending_other;
      gone = λ q has. absurd (let both : Some q ≡ None = sym has ∙ gone_here e.key refl in cc both);
      sets = sets;
      chunks = put_chunks w.allocator al (pointer_of e.body) P;
      less = put_less w.allocator al (pointer_of e.body) P;
      blocks = λ q b has. rest_was e.body v.blocks q b has;
      others = blocks_other;
      held = λ q b has. put_kept w.allocator al (pointer_of e.body) P q (H.blocks.held q b (rest_was e.body v.blocks q b has)).used (λ is. rest_off e.body v.blocks q b has (pointed e.body q is));
      staged = λ q s ne. put_kept w.allocator al (pointer_of e.body) P q (H.blocks.staged q s).0.used (λ is. let o = offered v e.key q e.body st.offers (pointed e.body q is) in let has = o.1 in let none = (H.blocks.staged q s).1 in let both : None ≡ Some (record { key = e.key; bytes = o.0 }) = sym none ∙ has in cc both);
      only = λ q b has used. rest_other e.body v.blocks q b has (λ points. put_gone w.allocator al (pointer_of e.body) P q (pointer_is e.body q points) used);
      only_staged = λ q s at used. not_here q s at;
      allows = record { kept = refl; flying = refl; doomed = λ k n d. d; blocks = λ q b has. rest_was e.body v.blocks q b has };
      leads = leads;
      space = λ r. clash w.stopped stopped r;
      broken = H.broken;
      lost = λ is. clash (is_lost l) is safe;
      flight = led_on v.flying v.broken w.leading w.lost_batch w.stopped H.flight l (stopped_flies l may ∙ sym (stopped_flies w.leading (O.stops stopped))) was_safe;
      unlost = λ off. off;
      names = λ s r. clash w.stopped stopped r;
    }

    withdraws_order : FreesInOrder p m e.key v view w withdrawn
    withdraws_order = record {
      block = λ k ne. refl;
      forgets = λ k ne. refl;
      last = λ k q ne has. refl;
      heard = O.heard;
      told = O.told;
      versions = O.versions;
      mine = O.mine;
      single = λ q b has same. ⊎_elim
          (λ is. inl (ap (λ (k : ℕ). block_of (known_at w.index k)) (sym same) ∙ is))
          (λ points. absurd (rest_off e.body v.blocks q b has (subst (λ (o : Option Pending). PointsAt o q) (ap v.pending same ∙ pends) points)))
          (O.single q b (rest_was e.body v.blocks q b has));
      distinct = λ q points is. subst (λ (o : Option Pending). PointsAt o q) (gone_here e.key refl) points;
      next = λ q has. absurd (let both : Some q ≡ None = sym has ∙ gone_here e.key refl in cc both);
      answers = room_let_go w withdrawn slot e.key key_was (let eight = H.eight in let lt = st.within in omega (arith, eight, lt)) R refl refl (subst (λ (z : Worker). (n : ℕ) → HasAnswerRoom (n + 1) w → HasAnswerRoom n z) rest room) O.answers;
      hand = O.hand;
      stops = λ s. may;
      agrees = O.agrees;
      log = λ r. clash w.stopped stopped r;
      names = λ r. clash w.stopped stopped r;
    }

    pub withdrawn_freed : IsFreed p m v view w x e.key
    withdrawn_freed =
        let few = H.admitted e.key (busy_by w.places.items e.key slot key_was) in
        subst (λ (z : Worker). IsFreed p m v view w z e.key) (sym rest) (is_freed p m e.key slot v view w withdrawn H O st.within key_was st.own withdraws withdraws_order refl refl (omega (arith, few)) (put_count w.allocator al (pointer_of e.body) P) (λ r. clash w.stopped stopped r))

-- what was put away of a change that was withdrawn is out of its place
pub withdrawn_away : (p : groups.Place) (m : ℕ) (v u : View) (w x : Worker) (slot at : ℕ) (e : Entry) (l : Leading) → Holds p m v w → InOrder p m v w → w.stopped ≡ true → v.pending e.key ≡ Some (record { entry = e; slot = Some slot }) → u ≡ after_withdraw e v → Leads p m u l → is_lost l ≡ false → is_lost w.leading ≡ false → MayLeadStopped l
    → key_in (place_at w.places.items at) ≡ Some e.key → PutsAway (record w { leading = l }) x at (pointer_of e.body) → IsFreed p m v u w x e.key
withdrawn_away p m v u w x slot at e l H O stopped pends view leads safe was_safe may key P =
    let s = stood p m v w H slot e pends in
    let same : at ≡ slot = H.apart at slot e.key key (ap key_in s.place) in
    let R : Replaces w.places.items x.places.items slot Free = subst (λ (n : ℕ). Replaces w.places.items x.places.items n Free) same P.lets.places in
    subst (λ (z : View). IsFreed p m v z w x e.key) (sym view) (withdrawn_freed p m v w H O stopped slot e pends P.mid P.sets P.puts l (subst (λ (z : View). Leads p m z l) view leads) safe was_safe may x P.lets.rest R P.lets.room)
