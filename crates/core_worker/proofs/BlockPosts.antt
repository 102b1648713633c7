-- What posting a change with a block leaves of the ties.
use Rattle.std.proofs.Common.{◌≡◌, ◌≢◌, inl, inr, ⊎_elim, ℕ, ◌+◌, ◌≤◌, ◌<◌, Bool, true, false, cond, List, [], ◌∷◌, ◌++◌, length, Option, Some, None, refl, sym, ◌∙◌, ap, subst}
use Rattle.std.specs.Prelude.{Vec}
use Rattle.std.specs.Global.{Global}
use Rattle.core_worker.specs.declared.types.Leading.TheVariants as leads
use Rattle.batch_leader.specs.declared.batch_buffer.BatchBuffer.{BatchBuffer}
use Rattle.core_worker.specs.Ties.{LeadsAt}
use Rattle.std.proofs.lemmas.Bool.{cases_eq, eq-eqb, ne_eqb}
use Rattle.pm_region.specs.Words.{lines_for}
use Rattle.pm_region.specs.State.{State}
use Rattle.log_entry.specs.declared.entry.Entry.{Entry}
use Rattle.log_entry.specs.declared.entry.Body.{Body}
use Rattle.log_entry.specs.declared.entry.Body.TheVariants as bodies
use Rattle.log_entry.specs.Spelling.{words_of, HasSpelling}
use Rattle.group_laws.specs.declared.types.Pending.{Pending}
use Rattle.group_laws.specs.Places.{Place, owner}
use Rattle.group_laws.specs.Steps.{with_block}
use Rattle.group_laws.specs.Updates.{put}
use Rattle.group_laws.specs.MemberViews.{View}
use Rattle.group_board.specs.Views.{after_post}
use Rattle.core_worker.specs.declared.types.Place as places
use Rattle.core_worker.specs.declared.types.Place.TheVariants.{Free, Staged, Posted}
use Rattle.core_worker.specs.declared.worker.Worker.{Worker}
use Rattle.core_worker.specs.OwnPlaces.{place_at, key_in, is_busy, Replaces}
use Rattle.core_worker.specs.KeyTies.{IsPlaced, Offers, IsStagedBlock}
use Rattle.core_worker.specs.Ties.{Holds, Stands, HasSpaceFor}
use Rattle.group_board.specs.Conditions.{IsFree}
use Rattle.group_laws.specs.declared.types.Block.{Block}
use Rattle.core_worker.specs.KeyTies.{IsBlockFor, Left, LeftIn}
use Rattle.core_index.specs.Records.{KeyRecord}
use Rattle.core_index.specs.Index.{known_at}
use Rattle.group_laws.specs.Places.{GetsBlock}
use Rattle.group_board.specs.Conditions.{MayPost, IsClearIn}
use Rattle.core_worker.proofs.Posts.{same_keys, busy_same}
use Rattle.core_worker.proofs.MailKept.{mail_same}

abbrev slot_in : Option Pending → Option ℕ
slot_in None = None
slot_in (Some q) = q.slot

module _ (p : Place) (m : ℕ) (v : View) (w : Worker) (H : Holds p m v w) (slot number : ℕ) (e : Entry) (value : List ℕ) (lt : slot < 8) (was : place_at w.places.items slot ≡ Staged number e value) (q : ℕ) (points : e.body ≡ bodies.Pointer q) (runs : w.stopped ≡ false) where
  abbrev Facts : Type 0
  Facts = IsFree v slot × (owner p e.key ≡ m) × (v.pending e.key ≡ None) × HasSpelling e × (e.version ≡ v.last e.key + 1) × (e.body ≡ bodies.Tombstone → v.cell e.key ≢ None)

  pub facts : Facts
  facts = subst (IsPlaced p m v slot) was (H.placed slot lt)

  -- the view after the post, with the block
  abbrev posted : View
  posted = record v { pending = put v.pending e.key (Some (record { entry = e; slot = Some slot })); blocks = put v.blocks q (Some (record { key = e.key; bytes = value })); posted = v.posted ++ e ∷ []; looked = [] }

  abbrev mine : IsStagedBlock v w.places.items q
  mine = record { slot = slot; number = number; entry = e; value = value; place = was; points = points }

  is_block : IsBlockFor w.allocator q (length value) × (v.blocks q ≡ None)
  is_block = H.blocks.staged q mine

  block_here : (r : ℕ) → r ≡ q → posted.blocks r ≡ Some (record { key = e.key; bytes = value })
  block_here r same = ap (λ b. cond b (Some (record { key = e.key; bytes = value })) (v.blocks r)) (eq-eqb r q same)

  block_other : (r : ℕ) → r ≢ q → posted.blocks r ≡ v.blocks r
  block_other r ne = ap (λ b. cond b (Some (record { key = e.key; bytes = value })) (v.blocks r)) (ne_eqb r q ne)

  pub view_is : after_post slot e value v ≡ posted
  view_is = ap (λ bs. record v { pending = put v.pending e.key (Some (record { entry = e; slot = Some slot })); blocks = bs; posted = v.posted ++ e ∷ []; looked = [] }) (ap (λ (b : Body). with_block e.key value b v.blocks) points)

  here : (k : ℕ) → k ≡ e.key → put v.pending e.key (Some (record { entry = e; slot = Some slot })) k ≡ Some (record { entry = e; slot = Some slot })
  here k same = ap (λ b. cond b (Some (record { entry = e; slot = Some slot })) (v.pending k)) (eq-eqb k e.key same)

  other : (k : ℕ) → k ≢ e.key → put v.pending e.key (Some (record { entry = e; slot = Some slot })) k ≡ v.pending k
  other k ne = ap (λ b. cond b (Some (record { entry = e; slot = Some slot })) (v.pending k)) (ne_eqb k e.key ne)

  -- another place has another key
  another : (s k : ℕ) → s ≢ slot → key_in (place_at w.places.items s) ≡ Some k → k ≢ e.key
  another s k ne has same = ne (H.apart s slot k has (ap key_in was ∙ ap Some (sym same)))

  free_still : (s : ℕ) → s ≢ slot → IsFree v s → IsFree posted s
  free_still s ne free k d has = ⊎_elim
      (λ same. ne (let q : Some slot ≡ Some s = ap slot_in (sym (here k same) ∙ has) in let at : slot ≡ s = cc q in sym at))
      (λ differs. free k d (sym (other k differs) ∙ has)) (cases_eq k e.key)

  placed_still : (s : ℕ) → s ≢ slot → (x : places.Place) → place_at w.places.items s ≡ x → IsPlaced p m v s x → IsPlaced p m posted s x
  placed_still s ne Free at is = free_still s ne is
  placed_still s ne (Staged n d u) at is = (free_still s ne is.0, is.1, other d.key (another s d.key ne (ap key_in at)) ∙ is.2, is.3, is.4, is.5)
  placed_still s ne (Posted n k lines) at is = (is.0, other k (another s k ne (ap key_in at)) ∙ is.1, is.2, is.3, offers k is.0.body is.4, is.5, is.6) where
    offers : (k : ℕ) (b : Body) → Offers v k b → Offers posted k b
    offers k (bodies.Pointer r) o = (o.0, block_other r (λ same. (let both : Some (record { key = k; bytes = o.0 }) ≡ None = sym o.1 ∙ ap v.blocks same ∙ is_block.1 in cc both)) ∙ o.1)
    offers k (bodies.Embedded u) o = tt
    offers k bodies.Tombstone o = o

  module _ (ps : Vec places.Place Global) (lines : ℕ) (R : Replaces w.places.items ps.items slot (Posted number e.key lines)) (lines_are : lines ≡ lines_for (length (words_of e))) (few : lines ≤ 5) where
    keys_same : (s : ℕ) → key_in (place_at ps.items s) ≡ key_in (place_at w.places.items s)
    keys_same = same_keys w.places.items ps.items slot (Posted number e.key lines) R (ap key_in (sym was))

    busy_is : (k : ℕ) → is_busy ps.items k ≡ is_busy w.places.items k
    busy_is = busy_same w.places.items ps.items keys_same

    was_staged : (q : ℕ) (x : IsStagedBlock posted ps.items q) → IsStagedBlock v w.places.items q
    was_staged q x = record {
      slot = x.slot;
      number = x.number;
      entry = x.entry;
      value = x.value;
      place = sym (R.others x.slot (λ at. (let clash : Posted number e.key lines ≡ Staged x.number x.entry x.value = sym R.here ∙ ap (place_at ps.items) (sym at) ∙ x.place in cc clash))) ∙ x.place;
      points = x.points;
    }

    now_staged : (r : ℕ) (x : IsStagedBlock v w.places.items r) → r ≢ q → IsStagedBlock posted ps.items r
    now_staged r x ne = record {
      slot = x.slot;
      number = x.number;
      entry = x.entry;
      value = x.value;
      place = R.others x.slot (λ at. ne (same_place r x (sym was ∙ ap (place_at w.places.items) (sym at) ∙ x.place))) ∙ x.place;
      points = x.points;
    }
      where
        entry_in : places.Place → Body
        entry_in Free = bodies.Tombstone
        entry_in (Staged n d u) = d.body
        entry_in (Posted n k l) = bodies.Tombstone

        same_place : (r : ℕ) (x : IsStagedBlock v w.places.items r) → Staged number e value ≡ Staged x.number x.entry x.value → r ≡ q
        same_place r x same = let both : bodies.Pointer r ≡ bodies.Pointer q = sym x.points ∙ sym (ap entry_in same) ∙ points in cc both

    not_mine : (r : ℕ) → IsStagedBlock posted ps.items r → r ≢ q
    unfolding was_staged
    not_mine r x same =
        let y = was_staged r x in
        let at : y.slot ≡ slot = H.blocks.once q (subst (IsStagedBlock v w.places.items) same y) mine in
        let clash : Posted number e.key lines ≡ Staged x.number x.entry x.value = sym R.here ∙ ap (place_at ps.items) (sym at) ∙ x.place in
        cc clash

    left_by : (k : ℕ) (b : Body) → Left v k b (v.cell k) → Left posted k b (v.cell k)
    left_by k (bodies.Pointer r) l = (l.0, l.1, block_other r (λ same. (let both : Some (record { key = k; bytes = l.0 }) ≡ None = sym l.2 ∙ ap v.blocks same ∙ is_block.1 in cc both)) ∙ l.2)
    left_by k (bodies.Embedded u) l = l
    left_by k bodies.Tombstone l = l

    left_in : (k : ℕ) (o : Option KeyRecord) → LeftIn v k o (v.cell k) → LeftIn posted k o (v.cell k)
    left_in k None l = l
    left_in k (Some r) l = left_by k r.body l

    offers_here : (b : Body) → b ≡ bodies.Pointer q → Offers posted e.key b
    offers_here b is = subst (Offers posted e.key) (sym is) (value, block_here q refl)

    abbrev bytes_in : Option Block → List ℕ
    bytes_in None = []
    bytes_in (Some d) = d.bytes

    held_here : (r : ℕ) (d : Block) → r ≡ q → Some (record { key = e.key; bytes = value }) ≡ Some d → IsBlockFor w.allocator r (length d.bytes)
    held_here r d same has = subst (λ (n : ℕ). IsBlockFor w.allocator n (length d.bytes)) (sym same) (subst (λ (xs : List ℕ). IsBlockFor w.allocator q (length xs)) (ap bytes_in has) is_block.0)

    pub holds_posted_block : (b : BatchBuffer) → w.leading ≡ leads.Nothing b → Holds p m posted (record w { places = ps })
    unfolding was_staged
    holds_posted_block b nothing = record {
      place = H.place;
      member = H.member;
      core = H.core;
      layout = H.layout;
      log_layout = H.log_layout;
      log_part = H.log_part;
      sets = H.sets;
      allocator_layout = H.allocator_layout;
      allocator_part = H.allocator_part;
      spelled = H.spelled;
      eight = R.count ∙ H.eight;
      placed = λ s low. ⊎_elim
          (λ at. subst (λ (n : ℕ). IsPlaced p m posted n (place_at ps.items n)) (sym at) (subst (IsPlaced p m posted slot) (sym R.here)
          (e, here e.key refl, refl, facts.1, offers_here e.body points, inl lines_are, few)))
          (λ ne. subst (IsPlaced p m posted s) (sym (R.others s ne)) (placed_still s ne (place_at w.places.items s) refl (H.placed s low)))
          (cases_eq s slot);
      apart = λ s t k a b. H.apart s t k (sym (keys_same s) ∙ a) (sym (keys_same t) ∙ b);
      pending = λ k q has. ⊎_elim
          (λ same. inl (slot, number, lines, lt, R.here ∙ ap (λ (n : ℕ). Posted number n lines) (sym same)))
          (λ differs. ⊎_elim
          (λ x. inl (x.0, x.1, x.2, x.3, R.others x.0 (λ at. (let clash : Staged number e value ≡ Posted x.1 k x.2 = sym was ∙ ap (place_at w.places.items) (sym at) ∙ x.4 in cc clash)) ∙ x.4))
          (λ y. inr (y.0, busy_is k ∙ y.1, y.2))
          (H.pending k q (sym (other k differs) ∙ has)))
          (cases_eq k e.key);
      admitted = λ k busy. H.admitted k (sym (busy_is k) ∙ busy);
      keys = λ k own which. let K = H.keys k own (⊎_elim (λ r. inl r) (λ b. inr (sym (busy_is k) ∙ b)) which) in record { last = K.last; cell = left_in k (known_at w.index k) K.cell; present = K.present; told = K.told };
      mail = mail_same p m v posted w.winds_down w.notices.items refl refl refl refl refl H.mail;
      blocks = record {
        held = λ r d has. ⊎_elim (λ same. held_here r d same (sym (block_here r same) ∙ has)) (λ ne. H.blocks.held r d (sym (block_other r ne) ∙ has)) (cases_eq r q);
        staged = λ r x. let s = H.blocks.staged r (was_staged r x) in (s.0, block_other r (not_mine r x) ∙ s.1);
        once = λ r x y. H.blocks.once r (was_staged r x) (was_staged r y);
        only = λ r used. ⊎_elim (λ same. inl (record { key = e.key; bytes = value }, block_here r same))
            (λ ne. ⊎_elim (λ b. inl (b.0, block_other r ne ∙ b.1)) (λ x. inr (now_staged r x ne)) (H.blocks.only r used)) (cases_eq r q);
      };
      waits = λ on k idle. H.waits on k (sym (busy_is k) ∙ idle);
      leads = record { seat = H.leads.seat; place = H.leads.place; number = H.leads.number; at = subst (LeadsAt H.leads.seat posted) (sym nothing) (let had : LeadsAt H.leads.seat v (leads.Nothing b) = subst (LeadsAt H.leads.seat v) nothing H.leads.at in (had.0, had.1, had.2)) };
      space = λ r. subst (HasSpaceFor (record w { places = ps })) (sym nothing) tt;
      broken = H.broken;
      cleaning = H.cleaning;
      remembers = λ r k own idle. H.remembers r k own (⊎_elim (λ same. absurd (let both : Some (record { entry = e; slot = Some slot }) ≡ None = sym (here k same) ∙ idle in cc both)) (λ differs. sym (other k differs) ∙ idle) (cases_eq k e.key));
      chunks = H.chunks;
      lost = H.lost;
      flight = H.flight;
    }

-- nothing of the region is written, and no place is part of the tie to it
pub stands_places : (s : State) (p : Place) (m : ℕ) (v : View) (w : Worker) (ps : Vec places.Place Global) → Stands s p m v w → Stands s p m v (record w { places = ps })
stands_places s p m v w ps S = record { lies = S.lies; licensed = S.licensed; landed = S.landed; log = S.log; free = S.free; due = S.due; cut = S.cut; names = S.names }

-- what the post asks
pub may_post : (p : Place) (m : ℕ) (v : View) (w : Worker) → Holds p m v w → (slot number : ℕ) (e : Entry) (value : List ℕ) → slot < 8 → place_at w.places.items slot ≡ Staged number e value → w.stopped ≡ false
    → ((q : ℕ) → e.body ≡ bodies.Pointer q → GetsBlock (length value) × IsClearIn p m v q value) → MayPost p m v slot (record { entry = e; home = None }) value
may_post p m v w H slot number e value lt was runs clear =
    let f : IsPlaced p m v slot (Staged number e value) = subst (IsPlaced p m v slot) was (H.placed slot lt) in
    record {
      member = H.member;
      slot = lt;
      free = f.0;
      home = refl;
      spelled = f.3;
      own = f.1;
      idle = f.2;
      whole = by_broken v.broken refl;
      next = f.4;
      live = f.5;
      block = clear;
    }
  where
    by_broken : (b : Bool) → v.broken ≡ b → v.broken ≡ false
    by_broken false e = e
    by_broken true e = absurd (let both : true ≡ false = sym (H.broken e) ∙ runs in cc both)
