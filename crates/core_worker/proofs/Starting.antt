-- A worker that has accepted nothing is tied to the view that its group is opened with.
use Rattle.std.proofs.Common.{◌≡◌, inl, inr, ⊎_elim, ◌⊎◌, ℕ, zero, suc, ◌+◌, ◌*◌, ◌<◌, ◌==◌, ◌&&◌, eqb, Bool, true, false, cond, List, [], ◌∷◌, ◌++◌, length, Option, Some, None, option_map, is_some, refl, sym, ◌∙◌, ap, subst, arith}
use Rattle.std.proofs.lemmas.Bool.{cases_eq, and_parts, and_from, eqb-true, eq-eqb}
use Rattle.pm_region.specs.State.{State, IsTelling, cell_now}
use Rattle.pm_region.specs.Words.{Surely, lasts}
use Rattle.pm_region.proofs.Clients.{may_be_last}
use Rattle.log_entry.specs.Batches.{scan_of}
use Rattle.log_entry.proofs.Clients.{words_same}
use Rattle.chunk_map.proofs.Clients.{chunk_in_part}
use Rattle.chunk_map.specs.Layouts.{part_first}
use Rattle.store_image.specs.Parts.{payload}
use Rattle.core_log.proofs.Clients.{is_tail, own_chunk, tail_fits}
use Rattle.log_standing.specs.declared.types.Settled.{Settled}
use Rattle.log_standing.specs.ChunkCounts.{chunks_in, has_name}
use Rattle.log_cleaner.proofs.Parts.{count_same}
use Rattle.licence.specs.Licence.{part_at, part_end}
use Rattle.log_entry.specs.declared.entry.Body.{Body}
use Rattle.log_entry.specs.declared.entry.Body.TheVariants.{Pointer}
use Rattle.log_entry.specs.Spelling.{HasSpelling}
use Rattle.chunk_map.specs.declared.layouts.Geometry.{Geometry}
use Rattle.chunk_map.specs.Layouts as layouts
use Rattle.store_image.specs.declared.types.PlacedEntry.{PlacedEntry}
use Rattle.conflict_queue.specs.Waiting.{waiting}
use Rattle.conflict_queue.specs.declared.types.Held.{Held}
use Rattle.core_index.specs.declared.types.StandingEntry.{StandingEntry}
use Rattle.core_index.specs.Index.{known_at}
use Rattle.core_index.specs.Records.{KeyRecord, Awaits, block_of, pointer_of, standing_of, standing_at, standing_with}
use Rattle.core_index.specs.Records.{is_dead as dead_in_record}
use Rattle.core_index.proofs.Clients.{found_version}
use Rattle.log_standing.specs.NameCounts.{copies_at, count_of, is_told}
use Rattle.core_log.specs.Log.{LogState, StandsIn, tail_of, tail_in, first_of, chunk_with}
use Rattle.lazy_alloc.specs.Sets.{Sets, AreSets, chunk_is_free, chunk_is_due, chunk_class}
use Rattle.lazy_alloc.specs.Written.{PartLies}
use Rattle.recover.specs.Starts.{KnownAs, IsSpelledIndex, named_in}
use Rattle.recover.specs.OwnDead.{is_dead_in}
use Rattle.store_image.specs.Parts.{all_entries}
use Rattle.recover.specs.declared.types.CoreStart.{CoreStart}
use Rattle.group_laws.specs.declared.types.Block.{Block}
use Rattle.group_laws.specs.declared.types.Pending.{Pending}
use Rattle.group_laws.specs.Places.{Place, members, core_of, owner}
use Rattle.group_laws.specs.MemberViews.{View, of_own}
use Rattle.group_laws.proofs.Clients.{part_core, has_home, home_has, back, some_group, lawful}
use Rattle.group_laws.specs.OpeningImages.{home_of, is_at, is_dead, is_own_dead}
use Rattle.group_board.specs.Seats.{SeatAt}
use Rattle.core_worker.specs.declared.types.Cleaning.{Cleaning}
use Rattle.core_worker.specs.declared.types.Place as places
use Rattle.core_worker.specs.declared.types.Place.TheVariants.{Free, Staged}
use Rattle.core_worker.specs.declared.worker.Worker.{Worker}
use Rattle.core_worker.specs.OwnPlaces.{place_at, key_in, lines_in, own, is_busy}
use Rattle.core_worker.specs.Supplies.{rest, KeepsRule, HasKeptRoom, supply_of}
use Rattle.core_worker.specs.KeyTies.{KnowsKey, IsPlaced, IsStagedBlock, AreBlocks}
use Rattle.core_worker.specs.StandingTies.{KnowsDead}
use Rattle.core_worker.specs.LogNames.{KnowsNames, IsCleanedBy}
use Rattle.core_worker.specs.OwnChunks.{AreChunks}
use Rattle.core_worker.specs.Ties.{Holds, Stands, Leads, LeadsAt, HasSpaceFor, in_flight, is_lost}
use Rattle.core_worker.proofs.Flight.{unlost_keeps}
use Rattle.core_worker.specs.Order.{InOrder, PointsAt, count_changes}
use Rattle.core_worker.specs.Hearing.{is_dead_by, heard_at, last_change}
use Rattle.log_cleaner.proofs.FloorLaws.{none_floors}
use Rattle.log_standing.specs.declared.types.Amount.{Amount}
use Rattle.log_standing.specs.NameCounts.{floor_at}
use Rattle.core_worker.proofs.MailKept.{knows_none, mail_new}
use Rattle.core_worker.proofs.HeardNames.{stands_by, dies_by, awaits_by}
use Rattle.core_worker.proofs.Tidied.{present_of}
use Rattle.core_worker.proofs.Settling.{same_flag}
use Rattle.core_worker.proofs.StartNames.{Logged, counted_logged, logged_counted, logged_named, named_logged}
use Rattle.core_worker.specs.Openings.{IsNew, IsStartAt, IsCertainAt, opened_view}
use Rattle.core_worker.proofs.UnderWay.{none_way}
use Rattle.core_worker.proofs.StartKeys as start_keys
use Rattle.core_worker.proofs.StartKeys.{changed, same_block}
use Rattle.core_worker.proofs.StartBlocks as start_blocks
use Rattle.core_worker.proofs.StartBlocks.{own_of}
use Rattle.core_worker.proofs.StartHeads as start_heads

-- Places that are all free.

pub free_push : (ps : List places.Place) → ((s : ℕ) → place_at ps s ≡ Free) → (s : ℕ) → place_at (ps ++ Free ∷ []) s ≡ Free
free_push [] free zero = refl
free_push [] free (suc s) = refl
free_push (p ∷ ps) free zero = free 0
free_push (p ∷ ps) free (suc s) = free_push ps (λ i. free (suc i)) s

free_lines : (ps : List places.Place) → ((s : ℕ) → place_at ps s ≡ Free) → own ps ≡ 0
free_lines [] free = refl
free_lines (p ∷ ps) free = (let first = ap lines_in (free 0) in let rest = free_lines ps (λ s. free (suc s)) in omega (arith, first, rest))

pub free_busy : (ps : List places.Place) → ((s : ℕ) → place_at ps s ≡ Free) → (k : ℕ) → is_busy ps k ≡ false
free_busy [] free k = refl
free_busy (p ∷ ps) free k = subst (λ (x : places.Place). is_busy (x ∷ ps) k ≡ false) (sym (free 0)) (free_busy ps (λ s. free (suc s)) k)

free_count : (ps : List places.Place) → ((s : ℕ) → place_at ps s ≡ Free) → count_changes ps ≡ 0
free_count [] free = refl
free_count (p ∷ ps) free = subst (λ (x : places.Place). count_changes (x ∷ ps) ≡ 0) (sym (free 0)) (let rest = free_count ps (λ s. free (suc s)) in omega (arith, rest))

no_key : (x : places.Place) (k : ℕ) → x ≡ Free → key_in x ≡ Some k → ⊥
no_key x k free has = let none : None ≡ Some k = sym (ap key_in free) ∙ has in cc none

none_either : (b : Bool) (X : Type 0) → cond {A = Option X} b None None ≡ None
none_either true X = refl
none_either false X = refl

-- a name without a home is told nowhere
told_none : (mine : Bool) (h : ℕ) (o : Option ℕ) (dead : Bool) → cond mine o None ≡ None → cond mine (is_at h o && dead) false ≡ false
told_none true h o dead none = ap (λ (x : Option ℕ). is_at h x && dead) none
told_none false h o dead none = refl

-- Nothing is pledged.
pub kept_room : (start : CoreStart) (layout : Geometry) (w : Worker) → IsNew start layout w → HasKeptRoom w
kept_room start layout w N =
    let lines = free_lines w.places.items N.free in
    let none = none_way w N.cleaning in
    let copies = ap rest none in
    subst (λ (c : Cleaning). KeepsRule c (supply_of w)) (sym none) (inl (omega (arith, lines, copies)))

module _ (p : Place) (m : ℕ) (image : ℕ → ℕ) (start : CoreStart) (layout : Geometry) (w : Worker) (N : IsNew start layout w) (same : layout ≡ p.layout) (at : IsStartAt p m image start) where
  abbrev v : View
  v = opened_view p m image

  abbrev c : ℕ
  c = core_of p m

  core_is : start.core ≡ c
  core_is = at.made.core_is

  no_pending : (k : ℕ) → v.pending k ≡ None
  no_pending k = none_either (eqb (owner p k) m) Pending

  pends : {A : Type 0} (k : ℕ) (q : Pending) → v.pending k ≡ Some q → A
  pends k q e = absurd (let none : None ≡ Some q = sym (no_pending k) ∙ e in cc none)

  idle : {A : Type 0} (k : ℕ) → is_busy w.places.items k ≡ true → A
  idle k busy = absurd (let two : false ≡ true = sym (free_busy w.places.items N.free k) ∙ busy in cc two)

  unstaged : {A : Type 0} (q : ℕ) → IsStagedBlock v w.places.items q → A
  unstaged q x = absurd (let two : Free ≡ Staged x.number x.entry x.value = sym (N.free x.slot) ∙ x.place in cc two)

  spelled : IsSpelledIndex w.index
  spelled k r now = by (known_at start.index k) refl where
    by : (o : Option KeyRecord) → known_at start.index k ≡ o → HasSpelling (record { key = k; version = r.version; body = r.body })
    by None was = absurd (let none : Some (last_change r) ≡ None = sym (ap (option_map last_change) now) ∙ N.index.changes k ∙ ap (option_map last_change) was in cc none)
    by (Some q) was =
        let is = changed (known_at start.index k) (known_at w.index k) (N.index.changes k) q r was now in
        subst (λ (b : Body). HasSpelling (record { key = k; version = r.version; body = b })) (sym is.1)
        (subst (λ (n : ℕ). HasSpelling (record { key = k; version = n; body = q.body })) (sym is.0) (at.made.spelled k q was))

  seat : SeatAt
  seat = record { number = m; place = p; table = record { words = 0; slots = 0; views_name = 0; atom = 0; block = 0; offset = 0; slot_names = [] }; handle = 0 }

  leads_now : Leads p m v w.leading
  unfolding seat
  leads_now = record { seat = seat; place = refl; number = refl; at = subst (LeadsAt seat v) (sym N.leading.1) (refl, (λ a s. refl), λ whole. refl) }

  blocks_now : AreBlocks v start.allocator w.places.items
  blocks_now = record {
    held = λ q b t. start_blocks.held_block p image at.place at.rules m at.member start.allocator at.made.allocator_layout at.made.allocator_part at.found.allocator q b t;
    staged = λ q x. unstaged q x;
    once = λ q x y. unstaged q x;
    only = λ q used. inl (start_blocks.only_blocks p image at.place at.rules m at.member start.allocator at.made.allocator_layout at.made.allocator_part at.found.allocator q used);
  }

  pub holds_now : Holds p m v w
  holds_now = record {
    place = at.place;
    member = at.member;
    core = N.core ∙ core_is;
    layout = N.layout_is ∙ same;
    log_layout = ap (λ (g : LogState). g.layout) N.log ∙ at.made.layout_is;
    log_part = ap (λ (g : LogState). g.part) N.log ∙ at.made.part_is;
    sets = subst AreSets (sym N.allocator) at.made.sets;
    allocator_layout = ap (λ (a : Sets). a.layout) N.allocator ∙ at.made.allocator_layout;
    allocator_part = ap (λ (a : Sets). a.part) N.allocator ∙ at.made.allocator_part;
    spelled = spelled;
    eight = N.eight;
    placed = λ s lt. subst (IsPlaced p m v s) (sym (N.free s)) (λ k e t. pends k (record { entry = e; slot = Some s }) t);
    apart = λ s t k a b. absurd (no_key (place_at w.places.items s) k (N.free s) a);
    pending = λ k q t. pends k q t;
    admitted = λ k busy. idle k busy;
    keys = λ k own may. knows_none p v w.notices.items k (known_at w.index k) N.outbox (start_keys.knows p image at.place at.rules m at.member start.index at.found.index k own w.index start.core core_is N.index);
    mail = mail_new p m v w.winds_down w.notices.items (N.members ∙ ap (λ (g : Geometry). g.group) same) N.outbox N.spare;
    blocks = subst (λ (a : Sets). AreBlocks v a w.places.items) (sym N.allocator) blocks_now;
    waits = λ works k free. ap (λ (hs : List Held). waiting hs k) N.queue;
    leads = leads_now;
    space = λ runs. subst (HasSpaceFor w) (sym N.leading.1) tt;
    broken = λ t. absurd (let two : false ≡ true = t in cc two);
    lost = λ t. absurd (let two : false ≡ true = sym (ap is_lost N.leading.1) ∙ t in cc two);
    flight = unlost_keeps v.flying v.broken w.leading w.lost_batch w.stopped N.unlost (ap in_flight (sym N.leading.1));
    cleaning = inl (none_way w N.cleaning);
    remembers = λ runs k own idle. start_keys.remembers p image at.place at.rules m at.member start.index at.found.index k own w.index start.core core_is N.index;
    chunks = λ runs. subst (λ (a : Sets). AreChunks p.layout.chunks a w.log.chunks) (sym N.allocator) (subst (λ (g : LogState). AreChunks p.layout.chunks start.allocator g.chunks) (sym N.log) (start_heads.chunks_now p m image start at));
  }

  -- who has no record has no entry that stands
  others : (k n : ℕ) (s : StandingEntry) → (layouts.owner p.layout k ≡ c → ⊥) → standing_at (standing_of (known_at w.index k)) n ≡ Some s → ⊥
  others k n s other now =
      let none : option_map last_change (known_at w.index k) ≡ None = N.index.changes k ∙ ap (option_map last_change) (at.found.index.others k other) in
      by (known_at w.index k) none now where
        by : (o : Option KeyRecord) → option_map last_change o ≡ None → standing_at (standing_of o) n ≡ Some s → ⊥
        by None e t = let no : None ≡ Some s = t in cc no
        by (Some r) e t = cc e

  points_there : (q : ℕ) (b : Block) → v.blocks q ≡ Some b → block_of (known_at w.index b.key) ≡ Some q
  points_there q b t =
      let o = start_blocks.owned p image at.place at.rules m at.member start.allocator at.made.allocator_layout at.made.allocator_part at.found.allocator q b t in
      let whose = sym (start_keys.core_is p image at.place at.rules m at.member start.index at.found.index b.key o.own) in
      same_block (known_at start.index b.key) (known_at w.index b.key) (N.index.changes b.key)
      ∙ by o.winner_is (known_at start.index b.key) (subst (λ (z : Option PlacedEntry). KnownAs z (known_at start.index b.key)) o.wins (at.found.index.known b.key whose)) o.points where
        by : (x : PlacedEntry) (o : Option KeyRecord) → KnownAs (Some x) o → x.entry.body ≡ Pointer q → block_of o ≡ Some q
        by x None ties body = absurd ties
        by x (Some r) ties body = ap pointer_of (ties.1 ∙ body)

  -- what stands in the log is what the view has there
  logged : (k n : ℕ) → 0 < count_of w.standing k n → Logged p m image start at k n
  logged k n some = counted_logged p m image start at k n (let c = N.standing.counts k n in omega (arith, c, some))

  counted : (k n : ℕ) → Logged p m image start at k n → 0 < count_of w.standing k n
  counted k n g = (let some = logged_counted p m image start at k n g in let c = N.standing.counts k n in omega (arith, c, some))

  -- a name that has this member as its home stands in its log, and the other way round
  own_logged : (k n : ℕ) → home_of p image k n ≡ Some m → Logged p m image start at k n
  own_logged k n is = let y = home_has p image at.place at.rules k n m is in record { y = y.0; log = y.2; key = y.5; version = y.6 }

  logged_own : (k n : ℕ) → Logged p m image start at k n → (home_of p image k n ≡ Some m) × (owner p k < members p)
  logged_own k n g =
      let b = back p image at.place at.rules m g.y at.member g.log in
      let core = part_core p image m g.y g.log in
      ((λ i. home_of p image (sym g.key i) (sym g.version i)) ∙ has_home p image at.place at.rules g.y b.0 m at.member core b.1, subst (λ (j : ℕ). owner p j < members p) g.key b.1)

  mine_of : {X : Type 0} (k : ℕ) (x d y : X) → of_own p m k x d ≡ y → (d ≡ y → ⊥) → (owner p k ≡ m) × (x ≡ y)
  mine_of {X} k x d y is off = by (eqb (owner p k) m) refl is where
    by : (b : Bool) → eqb (owner p k) m ≡ b → cond b x d ≡ y → (owner p k ≡ m) × (x ≡ y)
    by true e is = (eqb-true (owner p k) m e, is)
    by false e is = absurd (off is)

  mine_is : {X : Type 0} (k : ℕ) (x d : X) → owner p k ≡ m → of_own p m k x d ≡ x
  mine_is k x d own = ap (λ (b : Bool). cond b x d) (eq-eqb (owner p k) m own)

  own_home : (k n : ℕ) → v.present k n ≡ Some m → (owner p k ≡ m) × (home_of p image k n ≡ Some m)
  own_home k n is = mine_of k (home_of p image k n) None (Some m) is (λ none. (let e : None ≡ Some m = none in cc e))

  -- a dead name of the view is one of an own key, which stands in the own log, and is dead
  dead_parts : (k n : ℕ) → v.dead k n ≡ true → (owner p k ≡ m) × (home_of p image k n ≡ Some m) × (is_dead p image k n ≡ true)
  dead_parts k n dies =
      let both = and_parts (m == owner p k) (is_own_dead p image k n) dies in
      let own : owner p k ≡ m = sym (eqb-true m (owner p k) both.0) in
      let parts = and_parts (is_at (owner p k) (home_of p image k n)) (is_dead p image k n) both.1 in
      (own, at_home (home_of p image k n) (owner p k) parts.0 ∙ ap Some own, parts.1)
    where
      at_home : (o : Option ℕ) (h : ℕ) → is_at h o ≡ true → o ≡ Some h
      at_home None h t = absurd (cc t)
      at_home (Some i) h t = ap Some (eqb-true i h t)

  dead_told : (k n : ℕ) → owner p k ≡ m → v.dead k n ≡ v.told k n
  dead_told k n own = ap (λ (b : Bool). b && is_own_dead p image k n) (eq-eqb m (owner p k) (sym own)) ∙ sym (mine_is k (is_own_dead p image k n) false own)

  knows_own : (k : ℕ) → owner p k ≡ m → KnowsKey p v k (known_at w.index k)
  knows_own k own = start_keys.knows p image at.place at.rules m at.member start.index at.found.index k own w.index start.core core_is N.index

  -- what the index has of an own name at the start, and now
  stood_now : (k n : ℕ) (s : StandingEntry) → standing_at (standing_of (known_at start.index k)) n ≡ Some s → standing_at (standing_of (known_at w.index k)) n ≡ Some (heard_at start.core (known_at start.index k) n s)
  stood_now k n s is = N.index.standing k n ∙ ap (option_map (heard_at start.core (known_at start.index k) n)) is

  -- a name of the own log with an own key that is dead by the index is told
  told_of : (k n : ℕ) (s : StandingEntry) → owner p k ≡ m → standing_at (standing_of (known_at start.index k)) n ≡ Some s → s.home ≡ c → is_dead_by (known_at start.index k) n ≡ true → v.told k n ≡ true
  told_of k n s own is home dies =
      let test : (s.home == start.core && is_dead_by (known_at start.index k) n) ≡ true = and_from (s.home == start.core) (is_dead_by (known_at start.index k) n) (eq-eqb s.home start.core (home ∙ sym core_is)) dies in
      (knows_own k own).told n (heard_at start.core (known_at start.index k) n s) (stood_now k n s is)
      ∙ ap (λ (b : Bool). (cond b (standing_with s.version s.home true) s).told) test

  dead_rec : (o : Option KeyRecord) (n : ℕ) → is_dead_in o n ≡ true → (s : StandingEntry) × (standing_at (standing_of o) n ≡ Some s) × (is_dead_by o n ≡ true)
  dead_rec None n t = absurd (cc t)
  dead_rec (Some r) n t =
      let both = and_parts (is_some (standing_at r.standing n)) (dead_in_record r n) t in
      by (standing_at r.standing n) refl both.0 both.1 where
        by : (o : Option StandingEntry) → standing_at r.standing n ≡ o → is_some o ≡ true → dead_in_record r n ≡ true → (s : StandingEntry) × (standing_at r.standing n ≡ Some s) × (dead_in_record r n ≡ true)
        by None e some dies = absurd (cc some)
        by (Some s) e some dies = (s, e, dies)

  told_dies : (k n : ℕ) → is_told w.standing k n ≡ true → v.dead k n ≡ true
  told_dies k n t = ⊎_elim
      (λ before.
      let parts = and_parts (is_some (copies_at start.standing k n)) (is_dead_in (known_at start.index k) n) (sym (at.made.told k n) ∙ before) in
      let g = counted_logged p m image start at k n (N.copies k n parts.0) in
      by_record k n (dead_rec (known_at start.index k) n parts.1) g)
      (λ a.
      let s = stands_by (known_at start.index k) start.core n a in
      by_home k n (standing_with n start.core false) s core_is (dies_by (known_at start.index k) start.core n a))
      (N.standing.told k n t)
    where
      home_kept : (b : Bool) (s : StandingEntry) → (cond b (standing_with s.version s.home true) s).home ≡ s.home
      home_kept true s = refl
      home_kept false s = refl

      own_key : (k n : ℕ) (s : StandingEntry) → standing_at (standing_of (known_at start.index k)) n ≡ Some s → owner p k ≡ m
      own_key k n s is = ⊎_elim
          (λ mine. own_of p m k (some_group p image at.place at.rules) at.member mine)
          (λ other. absurd (others k n (heard_at start.core (known_at start.index k) n s) other (stood_now k n s is)))
          (cases_eq (layouts.owner p.layout k) c)

      by_home : (k n : ℕ) (s : StandingEntry) → standing_at (standing_of (known_at start.index k)) n ≡ Some s → s.home ≡ c → is_dead_by (known_at start.index k) n ≡ true → v.dead k n ≡ true
      by_home k n s is home dies = let own = own_key k n s is in dead_told k n own ∙ told_of k n s own is home dies

      by_record : (k n : ℕ) → ((s : StandingEntry) × (standing_at (standing_of (known_at start.index k)) n ≡ Some s) × (is_dead_by (known_at start.index k) n ≡ true)) → Logged p m image start at k n → v.dead k n ≡ true
      by_record k n x g =
          let own = own_key k n x.0 x.1 in
          let here : v.present k n ≡ Some m = mine_is k (home_of p image k n) None own ∙ (logged_own k n g).0 in
          let now = stood_now k n x.0 x.1 in
          let there = present_of p m v k (known_at w.index k) (knows_own k own) n m here in
          let same : heard_at start.core (known_at start.index k) n x.0 ≡ there.0 = (let both : Some (heard_at start.core (known_at start.index k) n x.0) ≡ Some there.0 = sym now ∙ there.1 in cc both) in
          let home : x.0.home ≡ c = sym (home_kept (x.0.home == start.core && is_dead_by (known_at start.index k) n) x.0) ∙ ap (λ (s : StandingEntry). s.home) same ∙ there.2 in
          by_home k n x.0 x.1 home x.2

  start_untold : (k n : ℕ) (x : StandingEntry) → standing_at (standing_of (known_at start.index k)) n ≡ Some x → x.told ≡ false
  start_untold k n x is = ⊎_elim
      (λ mine. by_named (named_in k n (all_entries p.layout image)) (sym (at.found.index.standing k n mine) ∙ is))
      (λ other. absurd (others k n (heard_at start.core (known_at start.index k) n x) other (stood_now k n x is)))
      (cases_eq (layouts.owner p.layout k) c)
    where
      by_named : (o : Option PlacedEntry) → option_map (λ (y : PlacedEntry). standing_with n y.core false) o ≡ Some x → x.told ≡ false
      by_named None e = absurd (cc e)
      by_named (Some y) e = let same : standing_with n y.core false ≡ x = cc e in ap (λ (s : StandingEntry). s.told) (sym same)

  dies_told : (k n : ℕ) → v.dead k n ≡ true → is_told w.standing k n ≡ true
  dies_told k n dies =
      let parts = dead_parts k n dies in
      let own = parts.0 in
      let here : v.present k n ≡ Some m = mine_is k (home_of p image k n) None own ∙ parts.1 in
      let K = knows_own k own in
      let s = present_of p m v k (known_at w.index k) K n m here in
      let told : s.0.told ≡ true = sym (K.told n s.0 s.1) ∙ sym (dead_told k n own) ∙ dies in
      N.standing.all k n (logged_counted p m image start at k n (own_logged k n parts.1))
      (by k n s.0 s.1 told (standing_at (standing_of (known_at start.index k)) n) refl)
    where
      by : (k n : ℕ) (s : StandingEntry) → standing_at (standing_of (known_at w.index k)) n ≡ Some s → s.told ≡ true → (o : Option StandingEntry) → standing_at (standing_of (known_at start.index k)) n ≡ o → (is_told start.standing k n ≡ true) ⊎ Awaits (known_at start.index k) start.core n
      by k n s now told None is = absurd (let both : Some s ≡ None = sym now ∙ N.index.standing k n ∙ ap (option_map (heard_at start.core (known_at start.index k) n)) is in cc both)
      by k n s now told (Some x) is =
          let same : heard_at start.core (known_at start.index k) n x ≡ s = (let both : Some (heard_at start.core (known_at start.index k) n x) ≡ Some s = sym (stood_now k n x is) ∙ now in cc both) in
          by_test (x.home == start.core && is_dead_by (known_at start.index k) n) refl (ap (λ (y : StandingEntry). y.told) same ∙ told)
        where
          untold : x.told ≡ false
          untold = start_untold k n x is

          by_test : (b : Bool) → (x.home == start.core && is_dead_by (known_at start.index k) n) ≡ b → (cond b (standing_with x.version x.home true) x).told ≡ true → (is_told start.standing k n ≡ true) ⊎ Awaits (known_at start.index k) start.core n
          by_test true e t =
              let both = and_parts (x.home == start.core) (is_dead_by (known_at start.index k) n) e in
              let version = found_version (standing_of (known_at start.index k)) n x is in
              let whole : x ≡ standing_with n start.core false = (λ i. standing_with (version i) (eqb-true x.home start.core both.0 i) (untold i)) in
              inr (awaits_by (known_at start.index k) start.core n (is ∙ ap (λ (y : StandingEntry). Some y) whole) both.1)
          by_test false e t = absurd (let both : true ≡ false = sym t ∙ untold in cc both)

  knows_names : KnowsNames m v.kept v.present v.told v.dead w.standing
  knows_names = record {
    stands = λ k n some. logged_named p m image start at k n (logged k n some);
    all = λ k n is. counted k n (named_logged p m image start at k n is);
    deaths = λ k n. same_flag (is_told w.standing k n) (v.dead k n) (told_dies k n) (dies_told k n);
    buried = λ k n dies. logged_named p m image start at k n (own_logged k n (dead_parts k n dies).1);
    own = λ k n is. logged_named p m image start at k n (own_logged k n (own_home k n is).1);
    heard = λ k n is told. dead_told k n (own_home k n is).0 ∙ told;
  }

  knows_dead : KnowsDead m v.kept v.present v.told v.dead w.standing
  knows_dead = record { deaths = told_dies; buried = knows_names.buried; own = knows_names.own; heard = knows_names.heard }

  pub order_now : InOrder p m v w
  order_now = record {
    owned = λ q b t. start_blocks.Owned.own (start_blocks.owned p image at.place at.rules m at.member start.allocator at.made.allocator_layout at.made.allocator_part at.found.allocator q b t);
    single = λ q b t. inl (points_there q b t);
    distinct = λ k q points here. subst (λ (o : Option Pending). PointsAt o q) (no_pending k) points;
    heard = λ k n waits. N.index.none k n (subst (λ (h : ℕ). Awaits (known_at w.index k) h n) (sym core_is) waits);
    told = λ k n none. told_none (eqb (owner p k) m) (owner p k) (home_of p image k n) (is_dead p image k n) none;
    next = λ k q t. pends k q t;
    spelled = λ k q t. pends k q t;
    recalls = λ k own busy none. idle k busy;
    hand = λ works. N.hand;
    versions = λ k n s now. elim (cases_eq (layouts.owner p.layout k) c) [
      | inl mine ↦ start_keys.below p image at.place at.rules m at.member start.index at.found.index k (own_of p m k (some_group p image at.place at.rules) at.member mine) w.index start.core core_is N.index n s now
      | inr other ↦ absurd (others k n s other now)
    ];
    mine = λ k n s now. elim (cases_eq (layouts.owner p.layout k) c) [
      | inl mine ↦ own_of p m k (some_group p image at.place at.rules) at.member mine
      | inr other ↦ absurd (others k n s other now)
    ];
    answers =
        let none = N.answers.1 in
        let places = free_count w.places.items N.free in
        let queue = ap (λ (hs : List Held). length hs) N.queue in
        let hand : cond {A = ℕ} (is_some w.in_hand) 1 0 ≡ 0 = ap (λ (o : Option Held). cond {A = ℕ} (is_some o) 1 0) N.hand in
        omega (arith, none, places, queue, hand);
    stops = λ stopped. absurd (let two : false ≡ true = sym N.runs ∙ stopped in cc two);
    agrees = record {
      bodies = λ e f has_e has_f key version. ((lawful p image at.place at.rules).logs.one_log m m e f (inl has_e) (inl has_f) key version).1;
      mine = λ k n h is. (mine_of k (home_of p image k n) None (Some h) is (λ none. (let both : None ≡ Some h = none in cc both))).0;
      dead_told = λ k n own dies. sym (dead_told k n own) ∙ dies;
      stands = λ k n own dies. mine_is k (home_of p image k n) None own ∙ ((lawful p image at.place at.rules).deaths.dead_is m k n dies).1;
    };
    log = λ runs on. knows_dead;
    names = λ runs on. N.names;
  }

  module _ (s : State) (here : IsCertainAt s p m image start) where
    pub stands_now : Stands s p m v w
    stands_now = record {
      lies = subst (PartLies s.frame) (sym N.allocator) here.lies;
      licensed = start_heads.licensed_now p m image start at s here;
      landed = λ unlost. start_heads.licensed_now p m image start at s here;
      log = λ runs. subst (StandsIn s) (sym N.log) here.log;
      free = λ runs j free telling. in_log j 0 (start_heads.free_now p m image start at s here j (ap (λ (a : Sets). chunk_is_free a j) (sym N.allocator) ∙ free) telling);
      due = λ runs j due telling. absurd (start_heads.never_due p m image start at j (ap (λ (a : Sets). chunk_is_due a j) (sym N.allocator) ∙ due));
      names = λ runs on telling. record {
        counted = record {
          counts = λ k n. N.standing.counts k n ∙ at.found.standing k n ∙ sym (chunks_found k n telling);
          settled = λ h read. unread h read;
        };
        read = λ h read. unread h read;
        floors = none_floors s w.log w.standing (λ j some. uncounted j (N.standing.tally.noted j some));
        knows = knows_names;
        cleaned = subst (λ (d : Cleaning). IsCleanedBy s w.log w.standing w.clearing d) (sym N.cleaning) tt;
      };
      cut = λ runs j k class undue telling. in_log j (2 + 256 * k) (start_heads.cut_now p m image start at s here j k (ap (λ (a : Sets). chunk_class a j) (sym N.allocator) ∙ class) telling);
    }
      where
        uncounted : (j : ℕ) → is_some (floor_at start.standing j) ≡ true → ⊥
        uncounted j some = (let both : true ≡ false = sym some ∙ ap (λ (o : Option Amount). is_some o) (at.made.floors j) in cc both)

        unread : {A : Type 0} (h : Settled) → w.standing.settled ≡ Some h → A
        unread h read = absurd (let both : None ≡ Some h = sym (N.standing.settled ∙ at.made.settled) ∙ read in cc both)

        chunks_found : (k n : ℕ) → IsTelling s → chunks_in (lasts s) w.log k n ≡ chunks_in image start.log k n
        chunks_found k n telling = ap (λ (g : LogState). chunks_in (lasts s) g k n) N.log
            ∙ count_same (λ (i : ℕ). has_name (scan_of (payload (lasts s) (first_of start.log i) (tail_in start.log i))).entries k n) (λ (i : ℕ). has_name (scan_of (payload image (first_of start.log i) (tail_in start.log i))).entries k n) start.log.chunks
            (λ i has. ap (λ (ws : List ℕ). has_name (scan_of ws).entries k n) (words_same (lasts s) image (first_of start.log i + 32) (tail_in start.log i) (λ x lt.
            let own = own_chunk start.log at.made.own i (tail_in start.log i) (is_tail (tail_of start.log.chunks i) has) in
            let fits = (tail_fits start.log.layout at.made.own.layout (chunk_with i (tail_in start.log i)) own).0 in
            let area = chunk_in_part start.log.layout start.log.part i own.within in
            let low_is : part_at p m ≡ part_first start.log.layout start.log.part = (λ e. part_first (sym at.made.layout_is e) (sym at.made.part_is e)) in
            let high_is : part_end p m ≡ part_first start.log.layout (start.log.part + 1) = (λ e. part_first (sym at.made.layout_is e) (sym at.made.part_is e + 1)) in
            let a0 = area.0 in
            let a1 = area.1 in
            here.words telling (first_of start.log i + 32 + x) (omega (arith, a0, low_is)) (omega (arith, a1, high_is, fits, lt)) (lasts s (first_of start.log i + 32 + x)) (may_be_last (cell_now s (first_of start.log i + 32 + x)) (lasts s (first_of start.log i + 32 + x)) refl))))

        in_log : (j k : ℕ) → (tail_of start.log.chunks j ≡ None) × Surely (cell_now s (first_of start.log j)) k → (tail_of w.log.chunks j ≡ None) × Surely (cell_now s (first_of w.log j)) k
        in_log j k both = subst (λ (g : LogState). (tail_of g.chunks j ≡ None) × Surely (cell_now s (first_of g j)) k) (sym N.log) both
