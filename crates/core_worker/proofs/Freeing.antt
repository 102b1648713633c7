-- A place is freed, whatever became of its change: what is left of the ties.
use Rattle.std.proofs.Common.{◌≡◌, ◌≢◌, ◌⊎◌, inl, inr, ⊎_elim, ℕ, ◌+◌, ◌*◌, ◌<◌, ◌≤◌, Bool, true, false, [], length, Option, Some, None, refl, sym, ◌∙◌, ap, subst, arith}
use Rattle.std.proofs.lemmas.Bool.{cases_eq}
use Rattle.pm_region.specs.Words.{Surely}
use Rattle.pm_region.specs.State.{State, IsTelling, cell_now}
use Rattle.log_entry.specs.declared.entry.Body.{Body}
use Rattle.log_entry.specs.declared.entry.Body.TheVariants as bodies
use Rattle.chunk_map.specs.Layouts.{part_first}
use Rattle.core_log.specs.Log.{LogState, StandsIn, tail_of, first_of}
use Rattle.core_index.specs.Index.{known_at, room_at}
use Rattle.core_index.specs.Records.{is_forgettable}
use Rattle.recover.specs.Starts.{IsSpelledIndex}
use Rattle.lazy_alloc.specs.Sets.{AreSets, SameChunks, block_is_used}
use Rattle.lazy_alloc.proofs.Clients.{same_part, class_same}
use Rattle.store_image.specs.Facts.{In}
use Rattle.group_laws.specs.declared.types.Block.{Block}
use Rattle.group_laws.specs.declared.types.Pending.{Pending}
use Rattle.group_laws.specs.Places.{Place, owner}
use Rattle.group_laws.specs.MemberViews.{View}
use Rattle.group_board.specs.Conditions.{IsFree}
use Rattle.licence.specs.Licence.{grounded}
use Rattle.licence.specs.ViewChanges.{AllowsAll}
use Rattle.licence.proofs.Clients.{allowed}
use Rattle.core_worker.specs.declared.types.Place as places
use Rattle.core_worker.specs.declared.types.Place.TheVariants.{Free, Staged, Posted}
use Rattle.core_worker.specs.declared.worker.Worker.{Worker}
use Rattle.core_worker.specs.OwnChunks.{HasChunk}
use Rattle.core_worker.specs.OwnPlaces.{place_at, key_in, is_busy, Replaces}
use Rattle.core_worker.specs.KeyTies.{IsPlaced, Offers, KnowsKey, IsStagedBlock, IsBlockFor}
use Rattle.core_worker.specs.declared.types.Cleaning.TheVariants.{Nothing}
use Rattle.core_worker.specs.Supplies.{under_way}
use Rattle.core_worker.specs.KeepsCleaning.{KeepsCleaning}
use Rattle.core_worker.specs.LogNames.{NamesStand}
use Rattle.core_worker.specs.Outbox.{KeepsMail, as_told}
use Rattle.core_worker.specs.Ties.{Stands, Leads, HasSpaceFor, KeepsFlight, is_lost}
use Rattle.core_worker.specs.Beginning.{HoldsAside}
use Rattle.core_worker.proofs.UnderWay.{Pledges}
use Rattle.core_worker.proofs.ChunksKept.{chunk_same}
use Rattle.core_worker.proofs.Posts.{busy_by, busy_has}

-- What a worker w with view v and a worker x with view u have in common, where the place of a change of this key was freed.
pub record Frees (p : Place) (m key slot : ℕ) (v u : View) (w x : Worker) : Type 0 where
  pub places : Replaces w.places.items x.places.items slot Free
  pub layout : x.layout ≡ w.layout
  pub core : x.core ≡ w.core
  pub log : x.log ≡ w.log
  pub cleaning : Pledges (under_way x) (under_way w) ⊎ (under_way x ≡ Nothing)
  pub cleans : KeepsCleaning p m v w → KeepsCleaning p m u x
  pub runs : x.stopped ≡ false → w.stopped ≡ false
  -- keys
  pub spelled : IsSpelledIndex x.index
  pub room : (k : ℕ) → k ≢ key → room_at w.index k ≤ room_at x.index k
  pub knows : (k : ℕ) → owner p k ≡ m → k ≢ key → (w.stopped ≡ false) ⊎ (is_busy w.places.items k ≡ true) → KnowsKey p (as_told x u) k (known_at x.index k)
  pub knows_here : owner p key ≡ m → x.stopped ≡ false → KnowsKey p (as_told x u) key (known_at x.index key)
  pub mail : KeepsMail p m u x.winds_down x.notices.items
  pub remembers : x.stopped ≡ false → (k : ℕ) → owner p k ≡ m → u.pending k ≡ None → is_forgettable (known_at x.index k) ≡ false
  pub last : (k : ℕ) → owner p k ≡ m → k ≢ key → is_busy w.places.items k ≡ true → u.last k ≡ v.last k
  pub cell : (k : ℕ) → k ≢ key → u.cell k ≡ v.cell k
  pub pending : (k : ℕ) → k ≢ key → u.pending k ≡ v.pending k
  pub gone : (q : Pending) → u.pending key ≡ Some q → (q.slot ≡ None) × (x.stopped ≡ true)
  -- blocks
  pub sets : AreSets x.allocator
  pub chunks : SameChunks w.allocator x.allocator
  pub less : (q : ℕ) → block_is_used x.allocator q ≡ true → block_is_used w.allocator q ≡ true
  pub blocks : (q : ℕ) (b : Block) → u.blocks q ≡ Some b → v.blocks q ≡ Some b
  pub others : (q : ℕ) (b : Block) → v.blocks q ≡ Some b → b.key ≢ key → u.blocks q ≡ Some b
  pub held : (q : ℕ) (b : Block) → u.blocks q ≡ Some b → block_is_used x.allocator q ≡ true
  pub staged : (q : ℕ) (s : IsStagedBlock v w.places.items q) → s.slot ≢ slot → block_is_used x.allocator q ≡ true
  pub only : (q : ℕ) (b : Block) → v.blocks q ≡ Some b → block_is_used x.allocator q ≡ true → u.blocks q ≡ Some b
  pub only_staged : (q : ℕ) (s : IsStagedBlock v w.places.items q) → s.slot ≡ slot → block_is_used x.allocator q ≡ true → ⊥
  -- what is led
  pub allows : AllowsAll v u
  pub leads : Leads p m u x.leading
  pub space : x.stopped ≡ false → HasSpaceFor (record x { queue = [] }) x.leading
  pub broken : u.broken ≡ true → x.stopped ≡ true
  pub lost : is_lost x.leading ≡ true → x.stopped ≡ true
  pub flight : KeepsFlight u.flying u.broken x.leading x.lost_batch x.stopped
  pub unlost : x.lost_batch ≡ false → w.lost_batch ≡ false
  -- the names in the log
  pub names : (s : State) → x.stopped ≡ false → x.winds_down ≡ false → IsTelling s
      → (w.stopped ≡ false → w.winds_down ≡ false → IsTelling s → NamesStand s m v.kept v.present v.told v.dead w.log w.standing w.clearing w.cleaning)
      → NamesStand s m u.kept u.present u.told u.dead x.log x.standing x.clearing x.cleaning

abbrev slot_of : Option Pending → Option ℕ
slot_of None = None
slot_of (Some q) = q.slot

module _ (p : Place) (m key slot : ℕ) (v u : View) (w x : Worker) (H : HoldsAside p m v w) (lt : slot < 8) (was : key_in (place_at w.places.items slot) ≡ Some key) (F : Frees p m key slot v u w x) where
  -- a place of the new ones that isn't free
  elsewhere : (s k : ℕ) → key_in (place_at x.places.items s) ≡ Some k → (s ≢ slot) × (key_in (place_at w.places.items s) ≡ Some k)
  elsewhere s k has =
      let ne : s ≢ slot = λ at. (let both : None ≡ Some k = sym (ap key_in F.places.here) ∙ ap (λ (n : ℕ). key_in (place_at x.places.items n)) (sym at) ∙ has in cc both) in
      (ne, ap key_in (sym (F.places.others s ne)) ∙ has)

  another : (s k : ℕ) → s ≢ slot → key_in (place_at w.places.items s) ≡ Some k → k ≢ key
  another s k ne has same = ne (H.apart s slot k has (was ∙ ap Some (sym same)))

  pub busy_was : (k : ℕ) → is_busy x.places.items k ≡ true → (k ≢ key) × (is_busy w.places.items k ≡ true)
  busy_was k busy =
      let at = busy_has x.places.items k busy in
      let there = elsewhere at.0 k at.2 in
      (another at.0 k there.0 there.1, busy_by w.places.items k at.0 there.1)

  pub idle_now : is_busy x.places.items key ≡ false
  idle_now = by (is_busy x.places.items key) refl where
    by : (b : Bool) → is_busy x.places.items key ≡ b → is_busy x.places.items key ≡ false
    by false e = e
    by true e = absurd ((busy_was key e).0 refl)

  pub busy_still : (k : ℕ) → k ≢ key → is_busy w.places.items k ≡ true → is_busy x.places.items k ≡ true
  busy_still k ne busy =
      let at = busy_has w.places.items k busy in
      let off : at.0 ≢ slot = λ same. ne (let both : Some k ≡ Some key = sym at.2 ∙ ap (λ (n : ℕ). key_in (place_at w.places.items n)) same ∙ was in cc both) in
      busy_by x.places.items k at.0 (ap key_in (F.places.others at.0 off) ∙ at.2)

  free_still : (s : ℕ) → IsFree v s → IsFree u s
  free_still s free k d has = ⊎_elim
      (λ same. let q = (F.gone (record { entry = d; slot = Some s }) (ap u.pending (sym same) ∙ has)).0 in cc q)
      (λ ne. free k d (sym (F.pending k ne) ∙ has)) (cases_eq k key)

  free_here : IsFree u slot
  free_here k d has = ⊎_elim
      (λ same. let q = (F.gone (record { entry = d; slot = Some slot }) (ap u.pending (sym same) ∙ has)).0 in cc q)
      (λ ne. let before : v.pending k ≡ Some (record { entry = d; slot = Some slot }) = sym (F.pending k ne) ∙ has in ⊎_elim
      (λ y. let is = subst (IsPlaced p m v y.0) y.4 (H.placed y.0 y.3) in
      let two : Some slot ≡ Some y.0 = ap slot_of (sym before ∙ is.1) in
      let at : slot ≡ y.0 = cc two in
      ne (let both : Some k ≡ Some key = sym (ap key_in y.4) ∙ ap (λ (n : ℕ). key_in (place_at w.places.items n)) (sym at) ∙ was in cc both))
      (λ y. let none = y.0 in cc none)
      (H.pending k (record { entry = d; slot = Some slot }) before))
      (cases_eq k key)

  offers_still : (k : ℕ) (b : Body) → k ≢ key → Offers v k b → Offers u k b
  offers_still k (bodies.Pointer q) ne o = (o.0, F.others q _ o.1 ne)
  offers_still k (bodies.Embedded y) ne o = tt
  offers_still k bodies.Tombstone ne o = λ none. o (sym (F.cell k ne) ∙ none)

  placed_still : (s : ℕ) → s ≢ slot → (y : places.Place) → place_at w.places.items s ≡ y → IsPlaced p m v s y → IsPlaced p m u s y
  placed_still s ne Free at is = free_still s is
  placed_still s ne (Staged n d val) at is =
      let off = another s d.key ne (ap key_in at) in
      (free_still s is.0, is.1, F.pending d.key off ∙ is.2, is.3, is.4 ∙ ap (λ (i : ℕ). i + 1) (sym (F.last d.key is.1 off (busy_by w.places.items d.key s (ap key_in at)))), λ t none. is.5 t (sym (F.cell d.key off) ∙ none))
  placed_still s ne (Posted n k lines) at is =
      let off = another s k ne (ap key_in at) in
      (is.0, F.pending k off ∙ is.1, is.2, is.3, offers_still k is.0.body off is.4, ⊎_elim (λ all. inl all) (λ none. inr (none.0, subst (In is.0) (sym F.allows.kept) none.1)) is.5, is.6)

  was_staged : (q : ℕ) (s : IsStagedBlock u x.places.items q) → IsStagedBlock v w.places.items q
  was_staged q s = record { slot = s.slot; number = s.number; entry = s.entry; value = s.value; place = sym (F.places.others s.slot (elsewhere s.slot s.entry.key (ap key_in s.place)).0) ∙ s.place; points = s.points }

  still_staged : (q : ℕ) (s : IsStagedBlock v w.places.items q) → s.slot ≢ slot → IsStagedBlock u x.places.items q
  still_staged q s ne = record { slot = s.slot; number = s.number; entry = s.entry; value = s.value; place = F.places.others s.slot ne ∙ s.place; points = s.points }

  block_still : (q n : ℕ) → IsBlockFor w.allocator q n → block_is_used x.allocator q ≡ true → IsBlockFor x.allocator q n
  block_still q n is used = record { used = used; class = is.class; class_is = class_same w.allocator x.allocator (same_part w.allocator x.allocator F.chunks) F.chunks.classes q ∙ is.class_is; fits = is.fits }

  none_there : (q : ℕ) → v.blocks q ≡ None → u.blocks q ≡ None
  none_there q none = by (u.blocks q) refl where
    by : (o : Option Block) → u.blocks q ≡ o → u.blocks q ≡ None
    by None e = e
    by (Some b) e = absurd (let both : None ≡ Some b = sym none ∙ F.blocks q b e in cc both)

  pub freed_holds : HoldsAside p m u x
  unfolding was_staged
  freed_holds = record {
    place = H.place;
    member = H.member;
    core = F.core ∙ H.core;
    layout = F.layout ∙ H.layout;
    log_layout = ap (λ (l : LogState). l.layout) F.log ∙ H.log_layout;
    log_part = ap (λ (l : LogState). l.part) F.log ∙ H.log_part;
    sets = F.sets;
    allocator_layout = F.chunks.layout_is ∙ H.allocator_layout;
    allocator_part = F.chunks.part_is ∙ H.allocator_part;
    spelled = F.spelled;
    eight = F.places.count ∙ H.eight;
    placed = λ s low. ⊎_elim
        (λ at. subst (λ (n : ℕ). IsPlaced p m u n (place_at x.places.items n)) (sym at) (subst (IsPlaced p m u slot) (sym F.places.here) free_here))
        (λ ne. subst (IsPlaced p m u s) (sym (F.places.others s ne)) (placed_still s ne (place_at w.places.items s) refl (H.placed s low)))
        (cases_eq s slot);
    apart = λ s t k a b. H.apart s t k (elsewhere s k a).1 (elsewhere t k b).1;
    pending = λ k q has. ⊎_elim
        (λ same. let g = F.gone q (ap u.pending (sym same) ∙ has) in inr (g.0, ap (is_busy x.places.items) same ∙ idle_now, g.1))
        (λ ne. ⊎_elim
        (λ y. inl (y.0, y.1, y.2, y.3, F.places.others y.0 (λ at. ne (let both : Some k ≡ Some key = sym (ap key_in y.4) ∙ ap (λ (n : ℕ). key_in (place_at w.places.items n)) at ∙ was in cc both)) ∙ y.4))
        (λ y. inr (y.0, idle_by k y.1, stopped_still y.2))
        (H.pending k q (sym (F.pending k ne) ∙ has)))
        (cases_eq k key);
    admitted = λ k busy. let b = busy_was k busy in let a = H.admitted k b.1 in let r = F.room k b.0 in omega (arith, a, r);
    keys = λ k own which. ⊎_elim
        (λ same. subst (λ (n : ℕ). KnowsKey p (as_told x u) n (known_at x.index n)) (sym same) (F.knows_here (ap (owner p) (sym same) ∙ own) (⊎_elim (λ r. r) (λ busy. absurd ((busy_was k busy).0 same)) which)))
        (λ ne. F.knows k own ne (⊎_elim (λ r. inl (F.runs r)) (λ busy. inr (busy_was k busy).1) which))
        (cases_eq k key);
    mail = F.mail;
    blocks = record {
      held = λ q b has. block_still q (length b.bytes) (H.blocks.held q b (F.blocks q b has)) (F.held q b has);
      staged = λ q s. let y = H.blocks.staged q (was_staged q s) in (block_still q (length s.value) y.0 (F.staged q (was_staged q s) (elsewhere s.slot s.entry.key (ap key_in s.place)).0), none_there q y.1);
      once = λ q s t. H.blocks.once q (was_staged q s) (was_staged q t);
      only = λ q used. ⊎_elim
          (λ b. inl (b.0, F.only q b.0 b.1 used))
          (λ s. ⊎_elim (λ at. absurd (F.only_staged q s at used)) (λ ne. inr (still_staged q s ne)) (cases_eq s.slot slot))
          (H.blocks.only q (F.less q used));
    };
    waits = λ on k idle. refl;
    leads = F.leads;
    space = F.space;
    broken = F.broken;
    lost = F.lost;
    flight = F.flight;
    cleaning = F.cleans H.cleaning;
    remembers = F.remembers;
    chunks = λ r j low. subst (λ (l : LogState). HasChunk x.allocator l.chunks j) (sym F.log)
        (chunk_same w.allocator x.allocator w.log.chunks j (F.chunks.free j) (F.chunks.classes j) (H.chunks (F.runs r) j low));
  } where
    idle_by : (k : ℕ) → is_busy w.places.items k ≡ false → is_busy x.places.items k ≡ false
    idle_by k idle = by (is_busy x.places.items k) refl where
      by : (b : Bool) → is_busy x.places.items k ≡ b → is_busy x.places.items k ≡ false
      by false e = e
      by true e = absurd (let both : true ≡ false = sym (busy_was k e).1 ∙ idle in cc both)

    stopped_still : w.stopped ≡ true → x.stopped ≡ true
    stopped_still stopped = by x.stopped refl where
      by : (b : Bool) → x.stopped ≡ b → x.stopped ≡ true
      by true e = e
      by false e = absurd (let both : true ≡ false = sym stopped ∙ F.runs e in cc both)

  pub freed_stands : (s : State) → Stands s p m v w → Stands s p m u x
  freed_stands s S = record {
    lies = record {
      low = subst (λ (n : ℕ). s.frame.first ≤ n) (λ i. part_first (sym F.chunks.layout_is i) (sym F.chunks.part_is i)) S.lies.low;
      high = subst (λ (n : ℕ). n ≤ s.frame.first + s.frame.words) (λ i. part_first (sym F.chunks.layout_is i) (sym F.chunks.part_is i + 1)) S.lies.high;
      fits = S.lies.fits;
    };
    licensed = λ telling image may. allowed p m v u image F.allows (S.licensed telling image may);
    landed = λ unlost telling image may. allowed p m (grounded v) (grounded u) image (record { kept = F.allows.kept; flying = refl; doomed = F.allows.doomed; blocks = F.allows.blocks }) (S.landed (F.unlost unlost) telling image may);
    log = λ r. subst (StandsIn s) (sym F.log) (S.log (F.runs r));
    free = λ r j h telling. subst (λ (l : LogState). (tail_of l.chunks j ≡ None) × Surely (cell_now s (first_of l j)) 0) (sym F.log) (S.free (F.runs r) j (sym (F.chunks.free j) ∙ h) telling);
    due = λ r j h telling. subst (λ (l : LogState). (tail_of l.chunks j ≡ None) × Surely (cell_now s (first_of l j)) 0) (sym F.log) (S.due (F.runs r) j (sym (F.chunks.due j) ∙ h) telling);
    cut = λ r j c h off telling. subst (λ (l : LogState). (tail_of l.chunks j ≡ None) × Surely (cell_now s (first_of l j)) (2 + 256 * c)) (sym F.log) (S.cut (F.runs r) j c (sym (F.chunks.classes j) ∙ h) (sym (F.chunks.due j) ∙ off) telling);
    names = λ r on telling. F.names s r on telling S.names;
  }
