-- A change is staged: what it leaves of the ties.
use Rattle.std.proofs.Common.{◌≡◌, ◌≢◌, ◌⊎◌, inl, inr, ⊎_elim, ℕ, ◌+◌, ◌≤◌, ◌<◌, Bool, true, false, List, [], length, Option, Some, None, refl, sym, ◌∙◌, ap, subst}
use Rattle.std.specs.Prelude.{Vec}
use Rattle.std.specs.Global.{Global}
use Rattle.std.proofs.lemmas.Bool.{cases_eq}
use Rattle.pm_region.specs.State.{State}
use Rattle.log_entry.specs.declared.entry.Entry.{Entry}
use Rattle.log_entry.specs.declared.entry.Body.{Body}
use Rattle.log_entry.specs.declared.entry.Body.TheVariants as bodies
use Rattle.log_entry.specs.Spelling.{HasSpelling}
use Rattle.chunk_map.specs.Layouts.{part_first}
use Rattle.core_index.specs.Index.{known_at, room_at}
use Rattle.core_index.specs.Records.{last_of}
use Rattle.lazy_alloc.specs.Sets.{Sets, block_is_used, chunk_is_free}
use Rattle.group_laws.specs.declared.types.Pending.{Pending}
use Rattle.group_laws.specs.declared.types.Block.{Block}
use Rattle.group_laws.specs.Places.{Place, owner}
use Rattle.group_laws.specs.MemberViews.{View}
use Rattle.batch_leader.specs.declared.batch_buffer.BatchBuffer.{BatchBuffer}
use Rattle.core_worker.specs.declared.types.Leading.TheVariants as leads
use Rattle.core_worker.specs.declared.types.Place as places
use Rattle.core_worker.specs.declared.types.Place.TheVariants.{Free, Staged, Posted}
use Rattle.core_worker.specs.declared.worker.Worker.{Worker}
use Rattle.core_worker.specs.OwnPlaces.{place_at, key_in, is_busy, Replaces}
use Rattle.core_worker.specs.KeyTies.{IsPlaced, IsStagedBlock, IsBlockFor}
use Rattle.core_worker.specs.Ties.{Stands, HasSpaceFor}
use Rattle.core_worker.specs.Beginning.{HoldsAside}
use Rattle.core_worker.proofs.CleaningKept.{keeps_few}
use Rattle.core_worker.proofs.Posts.{busy_by, busy_has}
use Rattle.core_worker.proofs.ChunksKept.{chunk_kept}
use Rattle.core_worker.proofs.Gains.{Allots}

clash : (b : Bool) → b ≡ true → b ≡ false → ⊥
clash b t f = cc (sym t ∙ f)

abbrev entry_in : places.Place → Body
entry_in Free = bodies.Tombstone
entry_in (Staged n d u) = d.body
entry_in (Posted n k l) = bodies.Tombstone

abbrev value_in : places.Place → List ℕ
value_in Free = []
value_in (Staged n d u) = u
value_in (Posted n k l) = []

module _ (p : Place) (m : ℕ) (v : View) (w : Worker) (H : HoldsAside p m v w) (runs : w.stopped ≡ false) (slot : ℕ) (lt : slot < 8) (was : place_at w.places.items slot ≡ Free) (number : ℕ) (e : Entry) (value : List ℕ)
    (mine : owner p e.key ≡ m) (idle : is_busy w.places.items e.key ≡ false) (spelled : HasSpelling e) (version : e.version ≡ last_of (known_at w.index e.key) + 1) (live : e.body ≡ bodies.Tombstone → v.cell e.key ≢ None) (room : 0 < room_at w.index e.key) where
  none_pending : v.pending e.key ≡ None
  none_pending = by (v.pending e.key) refl where
    by : (o : Option Pending) → v.pending e.key ≡ o → o ≡ None
    by None h = refl
    by (Some q) h = absurd (⊎_elim (λ x. clash (is_busy w.places.items e.key) (busy_by w.places.items e.key x.0 (ap key_in x.4)) idle) (λ d. clash w.stopped d.2 runs) (H.pending e.key q h))

  another : (s k : ℕ) → key_in (place_at w.places.items s) ≡ Some k → k ≢ e.key
  another s k has same = clash (is_busy w.places.items e.key) (busy_by w.places.items e.key s (has ∙ ap Some same)) idle

  module _ (a : Sets) (A : Allots w.allocator a e.body (length value)) (ps : Vec places.Place Global) (R : Replaces w.places.items ps.items slot (Staged number e value)) where
    abbrev staged : Worker
    staged = record w { allocator = a; places = ps }

    key_there : (s k : ℕ) → key_in (place_at ps.items s) ≡ Some k → (s ≡ slot) ⊎ (key_in (place_at w.places.items s) ≡ Some k)
    key_there s k has = ⊎_elim (λ same. inl same) (λ ne. inr (ap key_in (sym (R.others s ne)) ∙ has)) (cases_eq s slot)

    key_here : (s k : ℕ) → s ≡ slot → key_in (place_at ps.items s) ≡ Some k → k ≡ e.key
    key_here s k same has = let both : Some k ≡ Some e.key = sym has ∙ ap (λ n. key_in (place_at ps.items n)) same ∙ ap key_in R.here in cc both

    old_block : (q : ℕ) (x : IsStagedBlock v ps.items q) → x.slot ≢ slot → IsStagedBlock v w.places.items q
    old_block q x ne = record { slot = x.slot; number = x.number; entry = x.entry; value = x.value; place = sym (R.others x.slot ne) ∙ x.place; points = x.points }

    still_block : (q : ℕ) (x : IsStagedBlock v w.places.items q) → IsStagedBlock v ps.items q
    still_block q x = record { slot = x.slot; number = x.number; entry = x.entry; value = x.value; place = R.others x.slot (λ at. (let both : Free ≡ Staged x.number x.entry x.value = sym was ∙ ap (place_at w.places.items) (sym at) ∙ x.place in cc both)) ∙ x.place; points = x.points }

    here_is : (q : ℕ) (x : IsStagedBlock v ps.items q) → x.slot ≡ slot → Staged number e value ≡ Staged x.number x.entry x.value
    here_is q x at = sym R.here ∙ ap (place_at ps.items) (sym at) ∙ x.place

    points_here : (q : ℕ) (x : IsStagedBlock v ps.items q) → x.slot ≡ slot → e.body ≡ bodies.Pointer q
    points_here q x at = ap entry_in (here_is q x at) ∙ x.points

    unheld : (q : ℕ) → block_is_used w.allocator q ≡ false → v.blocks q ≡ None
    unheld q unused = by (v.blocks q) refl where
      by : (o : Option Block) → v.blocks q ≡ o → o ≡ None
      by None h = refl
      by (Some b) h = absurd (clash (block_is_used w.allocator q) (H.blocks.held q b h).used unused)

    still_taken : (j : ℕ) → chunk_is_free w.allocator j ≡ false → chunk_is_free a j ≡ false
    still_taken j off = by (chunk_is_free a j) refl where
      by : (b : Bool) → chunk_is_free a j ≡ b → chunk_is_free a j ≡ false
      by false e = e
      by true e = absurd (clash (chunk_is_free w.allocator j) (A.free j e) off)

    pub holds_staged : (b : BatchBuffer) → w.leading ≡ leads.Nothing b → HoldsAside p m v staged
    unfolding old_block
    holds_staged b nothing = record {
      place = H.place;
      member = H.member;
      core = H.core;
      layout = H.layout;
      log_layout = H.log_layout;
      log_part = H.log_part;
      sets = A.sets;
      allocator_layout = A.layout_is ∙ H.allocator_layout;
      allocator_part = A.part_is ∙ H.allocator_part;
      spelled = H.spelled;
      eight = R.count ∙ H.eight;
      placed = λ s low. ⊎_elim
          (λ at. subst (λ (n : ℕ). IsPlaced p m v n (place_at ps.items n)) (sym at) (subst (IsPlaced p m v slot) (sym R.here)
          (subst (IsPlaced p m v slot) was (H.placed slot lt), mine, none_pending, spelled, version ∙ ap (λ n. n + 1) (sym (H.keys e.key mine (inl runs)).last), live)))
          (λ ne. subst (IsPlaced p m v s) (sym (R.others s ne)) (H.placed s low))
          (cases_eq s slot);
      apart = λ s t k x y. ⊎_elim
          (λ here. ⊎_elim (λ there. here ∙ sym there) (λ old. absurd (another t k old (key_here s k here x))) (key_there t k y))
          (λ old. ⊎_elim (λ there. absurd (another s k old (key_here t k there y))) (λ old'. H.apart s t k old old') (key_there t k y))
          (key_there s k x);
      pending = λ k q has. ⊎_elim
          (λ x. inl (x.0, x.1, x.2, x.3, R.others x.0 (λ at. (let both : Free ≡ Posted x.1 k x.2 = sym was ∙ ap (place_at w.places.items) (sym at) ∙ x.4 in cc both)) ∙ x.4))
          (λ d. absurd (clash w.stopped d.2 runs))
          (H.pending k q has);
      admitted = λ k busy.
          let at = busy_has ps.items k busy in
          ⊎_elim (λ here. subst (λ (n : ℕ). 0 < room_at w.index n) (sym (key_here at.0 k here at.2)) room) (λ old. H.admitted k (busy_by w.places.items k at.0 old)) (key_there at.0 k at.2);
      keys = λ k own which. H.keys k own (inl runs);
      mail = H.mail;
      blocks = record {
        held = λ q d has. A.still q (length d.bytes) (H.blocks.held q d has);
        staged = λ q x. ⊎_elim
            (λ at. let f = A.fresh q (points_here q x at) in (subst (λ (u : List ℕ). IsBlockFor a q (length u)) (ap value_in (here_is q x at)) f.0, unheld q f.1))
            (λ ne. let s = H.blocks.staged q (old_block q x ne) in (A.still q (length x.value) s.0, s.1))
            (cases_eq x.slot slot);
        once = λ q x y. ⊎_elim
            (λ ax. ⊎_elim (λ ay. ax ∙ sym ay) (λ ny. absurd (clash (block_is_used w.allocator q) (H.blocks.staged q (old_block q y ny)).0.used (A.fresh q (points_here q x ax)).1)) (cases_eq y.slot slot))
            (λ nx. ⊎_elim (λ ay. absurd (clash (block_is_used w.allocator q) (H.blocks.staged q (old_block q x nx)).0.used (A.fresh q (points_here q y ay)).1)) (λ ny. H.blocks.once q (old_block q x nx) (old_block q y ny)) (cases_eq y.slot slot))
            (cases_eq x.slot slot);
        only = λ q used. ⊎_elim
            (λ before. ⊎_elim (λ b. inl b) (λ x. inr (still_block q x)) (H.blocks.only q before))
            (λ points. inr (record { slot = slot; number = number; entry = e; value = value; place = R.here; points = points }))
            (A.only q used);
      };
      waits = λ on k idle. refl;
      leads = H.leads;
      space = λ r. subst (HasSpaceFor (record staged { queue = [] })) (sym nothing) tt;
      broken = H.broken;
      lost = H.lost;
      flight = H.flight;
      cleaning = keeps_few p m v (record w { queue = [] }) a (record { few = A.few; taken = still_taken; uncut = λ j off none. (A.taken j (off, none)).1 }) H.cleaning;
      remembers = H.remembers;
      chunks = λ r j low. chunk_kept w.allocator a w.log.chunks j (A.chunk j) (A.taken j) (H.chunks r j low);
    }

    pub stands_staged : (s : State) → Stands s p m v w → Stands s p m v staged
    stands_staged s S = record {
      lies = record {
        low = subst (λ (x : ℕ). s.frame.first ≤ x) (λ i. part_first (sym A.layout_is i) (sym A.part_is i)) S.lies.low;
        high = subst (λ (x : ℕ). x ≤ s.frame.first + s.frame.words) (λ i. part_first (sym A.layout_is i) (sym A.part_is i + 1)) S.lies.high;
        fits = S.lies.fits;
      };
      licensed = S.licensed;
      landed = S.landed;
      log = S.log;
      free = λ r j h telling. S.free r j (A.free j h) telling;
      due = λ r j h telling. ⊎_elim (λ due. S.due r j due telling) (λ free. S.free r j free telling) (A.due j h);
      cut = λ r j c h off telling. let x = A.cut j c h off in S.cut r j c x.0 x.1 telling;
      names = S.names;
    }
