-- What posting a change leaves of the ties.
use Rattle.std.proofs.Common.{◌≡◌, ◌≢◌, inl, inr, ⊎_elim, ℕ, zero, suc, ◌+◌, ◌≤◌, ◌<◌, Bool, true, false, cond, List, [], ◌∷◌, ◌++◌, length, Option, Some, None, refl, sym, ◌∙◌, ap, subst, arith}
use Rattle.std.specs.Prelude.{Vec}
use Rattle.std.specs.Global.{Global}
use Rattle.core_worker.specs.declared.types.Leading.TheVariants as leads
use Rattle.batch_leader.specs.declared.batch_buffer.BatchBuffer.{BatchBuffer}
use Rattle.licence.specs.Licence.{grounded}
use Rattle.licence.proofs.Clients.{allowed}
use Rattle.core_worker.specs.Ties.{LeadsAt}
use Rattle.std.proofs.lemmas.Bool.{cases_eq, eqb-true, eq-eqb, ne_eqb}
use Rattle.pm_region.specs.Words.{lines_for}
use Rattle.pm_region.specs.State.{State}
use Rattle.log_entry.specs.declared.entry.Entry.{Entry}
use Rattle.log_entry.specs.declared.entry.Body.{Body}
use Rattle.log_entry.specs.declared.entry.Body.TheVariants as bodies
use Rattle.log_entry.specs.Spelling.{words_of, HasSpelling}
use Rattle.group_laws.specs.declared.types.Pending.{Pending}
use Rattle.group_laws.specs.Places.{Place, owner}
use Rattle.group_laws.specs.Steps.{with_block}
use Rattle.group_laws.specs.Updates.{put}
use Rattle.group_laws.specs.MemberViews.{View}
use Rattle.group_board.specs.Views.{after_post}
use Rattle.group_board.specs.Conditions.{IsFree}
use Rattle.core_worker.specs.declared.types.Place as places
use Rattle.core_worker.specs.declared.types.Place.TheVariants.{Free, Staged, Posted}
use Rattle.core_worker.specs.declared.worker.Worker.{Worker}
use Rattle.core_worker.specs.OwnPlaces.{place_at, key_in, is_of, is_busy, Replaces}
use Rattle.core_worker.specs.KeyTies.{IsPlaced, Offers, IsStagedBlock}
use Rattle.core_worker.specs.Posting.{PointsNowhere}
use Rattle.core_worker.specs.Ties.{Holds, Stands, HasSpaceFor}
use Rattle.core_worker.proofs.MailKept.{mail_same}

-- a place with the key makes it busy, and a busy key has one
pub busy_by : (ps : List places.Place) (k s : ℕ) → key_in (place_at ps s) ≡ Some k → is_busy ps k ≡ true
busy_by [] k s e = absurd (cc e)
busy_by (x ∷ xs) k zero e = ap (λ (o : Option ℕ). cond (is_of k o) true (is_busy xs k)) e ∙ ap (λ b. cond b true (is_busy xs k)) (eq-eqb k k refl)
busy_by (x ∷ xs) k (suc s) e = by_first (is_of k (key_in x)) (busy_by xs k s e) where
  by_first : (b : Bool) → is_busy xs k ≡ true → cond b true (is_busy xs k) ≡ true
  by_first true rest = refl
  by_first false rest = rest

of_key : (k : ℕ) (o : Option ℕ) → is_of k o ≡ true → o ≡ Some k
of_key k None t = absurd (cc t)
of_key k (Some j) t = ap Some (sym (eqb-true k j t))

pub busy_has : (ps : List places.Place) (k : ℕ) → is_busy ps k ≡ true → (s : ℕ) × (s < length ps) × (key_in (place_at ps s) ≡ Some k)
busy_has [] k t = absurd (cc t)
busy_has (x ∷ xs) k t = by_first (λ r. busy_has xs k r) (is_of k (key_in x)) refl t where
  by_first : (is_busy xs k ≡ true → (s : ℕ) × (s < length xs) × (key_in (place_at xs s) ≡ Some k)) → (b : Bool) → is_of k (key_in x) ≡ b → cond b true (is_busy xs k) ≡ true → (s : ℕ) × (s < length (x ∷ xs)) × (key_in (place_at (x ∷ xs) s) ≡ Some k)
  by_first rest true e q = (zero, omega arith, of_key k (key_in x) e)
  by_first rest false e q = let r = rest q in (suc r.0, (let lt = r.1 in omega (arith, lt)), r.2)

-- a place that has the same key as before
pub same_keys : (old new : List places.Place) (slot : ℕ) (x : places.Place) → Replaces old new slot x → key_in x ≡ key_in (place_at old slot) → (s : ℕ) → key_in (place_at new s) ≡ key_in (place_at old s)
same_keys old new slot x R same s = ⊎_elim (λ here. ap (λ n. key_in (place_at new n)) here ∙ ap key_in R.here ∙ same ∙ ap (λ n. key_in (place_at old n)) (sym here)) (λ ne. ap key_in (R.others s ne)) (cases_eq s slot)

pub busy_same : (old new : List places.Place) → ((s : ℕ) → key_in (place_at new s) ≡ key_in (place_at old s)) → (k : ℕ) → is_busy new k ≡ is_busy old k
busy_same old new same k = by_case (is_busy new k) (is_busy old k) refl refl where
  by_case : (a b : Bool) → is_busy new k ≡ a → is_busy old k ≡ b → a ≡ b
  by_case true true e f = refl
  by_case false false e f = refl
  by_case true false e f = (let at = busy_has new k e in let yes = busy_by old k at.0 (sym (same at.0) ∙ at.2) in absurd (let both : true ≡ false = sym yes ∙ f in cc both))
  by_case false true e f = (let at = busy_has old k f in let yes = busy_by new k at.0 (same at.0 ∙ at.2) in absurd (let both : true ≡ false = sym yes ∙ e in cc both))

no_block : (k : ℕ) (value : List ℕ) (b : Body) (v : View) → PointsNowhere b → with_block k value b v.blocks ≡ v.blocks
no_block k value (bodies.Pointer q) v none = absurd none
no_block k value (bodies.Embedded u) v none = refl
no_block k value bodies.Tombstone v none = refl

offers_nowhere : (v : View) (k : ℕ) (b : Body) → PointsNowhere b → (b ≡ bodies.Tombstone → v.cell k ≢ None) → Offers v k b
offers_nowhere v k (bodies.Pointer q) none live = absurd none
offers_nowhere v k (bodies.Embedded u) none live = tt
offers_nowhere v k bodies.Tombstone none live = live refl

-- the view after a post without a block
abbrev pub posted_view : View → ℕ → Entry → View
posted_view v slot e = record v { pending = put v.pending e.key (Some (record { entry = e; slot = Some slot })); posted = v.posted ++ e ∷ []; looked = [] }

abbrev slot_in : Option Pending → Option ℕ
slot_in None = None
slot_in (Some q) = q.slot

module _ (p : Place) (m : ℕ) (v : View) (w : Worker) (H : Holds p m v w) (slot number : ℕ) (e : Entry) (value : List ℕ) (lt : slot < 8) (was : place_at w.places.items slot ≡ Staged number e value) (none : PointsNowhere e.body) (runs : w.stopped ≡ false) where
  abbrev Facts : Type 0
  Facts = IsFree v slot × (owner p e.key ≡ m) × (v.pending e.key ≡ None) × HasSpelling e × (e.version ≡ v.last e.key + 1) × (e.body ≡ bodies.Tombstone → v.cell e.key ≢ None)

  pub facts : Facts
  facts = subst (IsPlaced p m v slot) was (H.placed slot lt)

  -- the view after the post, with the blocks as they were
  abbrev posted : View
  posted = record v { pending = put v.pending e.key (Some (record { entry = e; slot = Some slot })); posted = v.posted ++ e ∷ []; looked = [] }

  pub view_is : after_post slot e value v ≡ posted
  view_is = ap (λ bs. record v { pending = put v.pending e.key (Some (record { entry = e; slot = Some slot })); blocks = bs; posted = v.posted ++ e ∷ []; looked = [] }) (no_block e.key value e.body v none)

  here : (k : ℕ) → k ≡ e.key → put v.pending e.key (Some (record { entry = e; slot = Some slot })) k ≡ Some (record { entry = e; slot = Some slot })
  here k same = ap (λ b. cond b (Some (record { entry = e; slot = Some slot })) (v.pending k)) (eq-eqb k e.key same)

  other : (k : ℕ) → k ≢ e.key → put v.pending e.key (Some (record { entry = e; slot = Some slot })) k ≡ v.pending k
  other k ne = ap (λ b. cond b (Some (record { entry = e; slot = Some slot })) (v.pending k)) (ne_eqb k e.key ne)

  -- another place has another key
  another : (s k : ℕ) → s ≢ slot → key_in (place_at w.places.items s) ≡ Some k → k ≢ e.key
  another s k ne has same = ne (H.apart s slot k has (ap key_in was ∙ ap Some (sym same)))

  free_still : (s : ℕ) → s ≢ slot → IsFree v s → IsFree posted s
  free_still s ne free k d has = ⊎_elim
      (λ same. ne (let q : Some slot ≡ Some s = ap slot_in (sym (here k same) ∙ has) in let at : slot ≡ s = cc q in sym at))
      (λ differs. free k d (sym (other k differs) ∙ has)) (cases_eq k e.key)

  placed_still : (s : ℕ) → s ≢ slot → (x : places.Place) → place_at w.places.items s ≡ x → IsPlaced p m v s x → IsPlaced p m posted s x
  placed_still s ne Free at is = free_still s ne is
  placed_still s ne (Staged n d u) at is = (free_still s ne is.0, is.1, other d.key (another s d.key ne (ap key_in at)) ∙ is.2, is.3, is.4, is.5)
  placed_still s ne (Posted n k lines) at is = (is.0, other k (another s k ne (ap key_in at)) ∙ is.1, is.2, is.3, offers k is.0.body is.4, is.5, is.6) where
    offers : (k : ℕ) (b : Body) → Offers v k b → Offers posted k b
    offers k (bodies.Pointer q) o = o
    offers k (bodies.Embedded u) o = tt
    offers k bodies.Tombstone o = o

  module _ (ps : Vec places.Place Global) (lines : ℕ) (R : Replaces w.places.items ps.items slot (Posted number e.key lines)) (lines_are : lines ≡ lines_for (length (words_of e))) (few : lines ≤ 5) where
    keys_same : (s : ℕ) → key_in (place_at ps.items s) ≡ key_in (place_at w.places.items s)
    keys_same = same_keys w.places.items ps.items slot (Posted number e.key lines) R (ap key_in (sym was))

    busy_is : (k : ℕ) → is_busy ps.items k ≡ is_busy w.places.items k
    busy_is = busy_same w.places.items ps.items keys_same

    was_staged : (q : ℕ) (x : IsStagedBlock posted ps.items q) → IsStagedBlock v w.places.items q
    was_staged q x = record {
      slot = x.slot;
      number = x.number;
      entry = x.entry;
      value = x.value;
      place = sym (R.others x.slot (λ at. (let clash : Posted number e.key lines ≡ Staged x.number x.entry x.value = sym R.here ∙ ap (place_at ps.items) (sym at) ∙ x.place in cc clash))) ∙ x.place;
      points = x.points;
    }

    now_staged : (q : ℕ) (x : IsStagedBlock v w.places.items q) → IsStagedBlock posted ps.items q
    now_staged q x = record {
      slot = x.slot;
      number = x.number;
      entry = x.entry;
      value = x.value;
      place = R.others x.slot (λ at. nowhere q x (sym was ∙ ap (place_at w.places.items) (sym at) ∙ x.place)) ∙ x.place;
      points = x.points;
    }
      where
        entry_in : places.Place → Body
        entry_in Free = bodies.Tombstone
        entry_in (Staged n d u) = d.body
        entry_in (Posted n k l) = bodies.Tombstone

        nowhere : (q : ℕ) (x : IsStagedBlock v w.places.items q) → Staged number e value ≡ Staged x.number x.entry x.value → ⊥
        nowhere q x same = subst PointsNowhere (ap entry_in same ∙ x.points) none

    pub holds_posted : (b : BatchBuffer) → w.leading ≡ leads.Nothing b → Holds p m posted (record w { places = ps })
    unfolding was_staged
    holds_posted b nothing = record {
      place = H.place;
      member = H.member;
      core = H.core;
      layout = H.layout;
      log_layout = H.log_layout;
      log_part = H.log_part;
      sets = H.sets;
      allocator_layout = H.allocator_layout;
      allocator_part = H.allocator_part;
      spelled = H.spelled;
      eight = R.count ∙ H.eight;
      placed = λ s low. ⊎_elim
          (λ at. subst (λ (n : ℕ). IsPlaced p m posted n (place_at ps.items n)) (sym at) (subst (IsPlaced p m posted slot) (sym R.here)
          (e, here e.key refl, refl, facts.1, offers_nowhere v e.key e.body none facts.5, inl lines_are, few)))
          (λ ne. subst (IsPlaced p m posted s) (sym (R.others s ne)) (placed_still s ne (place_at w.places.items s) refl (H.placed s low)))
          (cases_eq s slot);
      apart = λ s t k a b. H.apart s t k (sym (keys_same s) ∙ a) (sym (keys_same t) ∙ b);
      pending = λ k q has. ⊎_elim
          (λ same. inl (slot, number, lines, lt, R.here ∙ ap (λ (n : ℕ). Posted number n lines) (sym same)))
          (λ differs. ⊎_elim
          (λ x. inl (x.0, x.1, x.2, x.3, R.others x.0 (λ at. (let clash : Staged number e value ≡ Posted x.1 k x.2 = sym was ∙ ap (place_at w.places.items) (sym at) ∙ x.4 in cc clash)) ∙ x.4))
          (λ y. inr (y.0, busy_is k ∙ y.1, y.2))
          (H.pending k q (sym (other k differs) ∙ has)))
          (cases_eq k e.key);
      admitted = λ k busy. H.admitted k (sym (busy_is k) ∙ busy);
      keys = λ k own which. let K = H.keys k own (⊎_elim (λ r. inl r) (λ b. inr (sym (busy_is k) ∙ b)) which) in record { last = K.last; cell = K.cell; present = K.present; told = K.told };
      mail = mail_same p m v posted w.winds_down w.notices.items refl refl refl refl refl H.mail;
      blocks = record {
        held = H.blocks.held;
        staged = λ q x. H.blocks.staged q (was_staged q x);
        once = λ q x y. H.blocks.once q (was_staged q x) (was_staged q y);
        only = λ q used. ⊎_elim (λ b. inl b) (λ x. inr (now_staged q x)) (H.blocks.only q used);
      };
      waits = λ on k idle. H.waits on k (sym (busy_is k) ∙ idle);
      leads = record { seat = H.leads.seat; place = H.leads.place; number = H.leads.number; at = subst (LeadsAt H.leads.seat posted) (sym nothing) (let had : LeadsAt H.leads.seat v (leads.Nothing b) = subst (LeadsAt H.leads.seat v) nothing H.leads.at in (had.0, had.1, had.2)) };
      space = λ r. subst (HasSpaceFor (record w { places = ps })) (sym nothing) tt;
      broken = H.broken;
      cleaning = H.cleaning;
      remembers = λ r k own idle. H.remembers r k own (⊎_elim (λ same. absurd (let both : Some (record { entry = e; slot = Some slot }) ≡ None = sym (here k same) ∙ idle in cc both)) (λ differs. sym (other k differs) ∙ idle) (cases_eq k e.key));
      chunks = H.chunks;
      lost = H.lost;
      flight = H.flight;
    }

-- nothing of the region is written
pub stands_posted : (s : State) (p : Place) (m : ℕ) (v u : View) (w : Worker) (slot : ℕ) (e : Entry) (ps : Vec places.Place Global) → PointsNowhere e.body → u ≡ posted_view v slot e → Stands s p m v w → Stands s p m u (record w { places = ps })
stands_posted s p m v u w slot e ps none is S =
    let x = posted_view v slot e in
    subst (λ (y : View). Stands s p m y (record w { places = ps })) (sym is) (record {
      lies = S.lies;
      licensed = λ telling image may. allowed p m v x image (record { kept = refl; flying = refl; doomed = λ k n e. e; blocks = λ q b e. e }) (S.licensed telling image may);
      landed = λ unlost telling image may. allowed p m (grounded v) (grounded x) image (record { kept = refl; flying = refl; doomed = λ k n e. e; blocks = λ q b e. e }) (S.landed unlost telling image may);
      log = S.log;
      free = S.free;
      due = S.due;
      cut = S.cut;
      names = S.names;
    })
