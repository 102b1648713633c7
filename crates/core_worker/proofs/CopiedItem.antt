-- The turn that copies on: what it keeps, that it is a whole move, and that less is left to do.
use Rattle.std.proofs.Common.{◌≡◌, inl, inr, ⊎_elim, ℕ, ◌+◌, ◌-◌, ◌^◌, ◌≤◌, ◌<◌, ◌==◌, ◌++◌, ltb, Bool, true, false, cond, List, [], length, map, Option, Some, None, refl, sym, ◌∙◌, ap, subst, arith, append-nil}
use Rattle.std.specs.Prelude.{option_to_list}
use Rattle.std.specs.List.{filter}
use Rattle.std.proofs.lemmas.Bool.{ltb-false}
use Rattle.fs_model.specs.Cells.{key_of}
use Rattle.pm_region.specs.State.{State, Frame, During, IsTelling, cell_now, Rose}
use Rattle.pm_region.specs.Words.{KeepsOutside}
use Rattle.pm_region.proofs.Clients.{all_kept, started}
use Rattle.chunk_map.specs.declared.layouts.Geometry.{Geometry}
use Rattle.chunk_map.specs.Layouts.{part_first}
use Rattle.log_entry.specs.declared.entry.Entry.{Entry}
use Rattle.conflict_queue.specs.Waiting.{waiting}
use Rattle.core_log.specs.Log.{IsOwn, room_of}
use Rattle.lazy_alloc.specs.Sets.{Sets}
use Rattle.log_cleaner.specs.declared.types.Victim.{Victim}
use Rattle.group_laws.specs.State.{Group}
use Rattle.group_laws.specs.Runs.{Kind}
use Rattle.group_laws.specs.Places.{Place}
use Rattle.group_laws.specs.MemberViews.{View}
use Rattle.group_board.specs.Seats.{SeatAt}
use Rattle.group_board.specs.Told.{Makes}
use Rattle.group_board.specs.Views.{after_commit}
use Rattle.batch_leader.specs.Persisting.{HasRoom, opened_for, StaysLicensed, WritesOpenChunk, WritesPart}
use Rattle.licence.specs.Licence.{Licensed, part_at, part_end}
use Rattle.licence.proofs.Clients.{allowed}
use Rattle.core_room.specs.RoomRule.{KeepsRoom}
use Rattle.core_room.specs.declared.supply.Supply.{Supply}
use Rattle.core_worker.specs.OwnPlaces.{place_at}
use Rattle.core_worker.specs.Refusals.{IsMeasured}
use Rattle.core_worker.specs.TakenChunks.{TakesChunkIf}
use Rattle.core_worker.proofs.CleaningKept.{small_way}
use Rattle.core_worker.proofs.Pointers.{each, counted}
use Rattle.engine_laws.proofs.Clients.{quiet_refuses}
use Rattle.core_worker.specs.declared.types.Cleaning.{Cleaning}
use Rattle.core_worker.specs.declared.types.Cleaning.TheVariants.{Nothing, Copying}
use Rattle.core_worker.specs.declared.types.Leading.TheVariants as leads
use Rattle.core_worker.specs.declared.worker.Worker.{Worker}
use Rattle.core_worker.specs.CleaningLeft.{clears_left}
use Rattle.core_worker.specs.CopyItems.{CopiesOn, LosesCopies, MisreadsCopies, needs_chunk}
use Rattle.core_worker.specs.CopyTurns.{CopiesInRegion, left_of}
use Rattle.core_worker.specs.Left.{serves_left, left, Lowers}
use Rattle.core_worker.specs.Left as counts
use Rattle.core_worker.specs.Order.{InOrder, MayLeadStopped}
use Rattle.core_worker.specs.Supplies.{under_way, rest, supply_of, left_in, no_more_than, KeepsRule, HasKeptRoom}
use Rattle.core_worker.specs.Ties.{LeadsAt, LeadsNothing, HasSpaceFor, Holds, HoldsAt, Stands, StandsAt}
use Rattle.core_worker.specs.Turning.{KeepsTurn}
use Rattle.core_worker.specs.Turns.{InOrderAt, Steps}
use Rattle.core_worker.specs.WorkerMoves.{stock_of, hands_of, asked_by, WorkerMoves}
use Rattle.core_worker.proofs.BlockStands.{holds_stopped}
use Rattle.core_worker.proofs.ClearsLeft as clears
use Rattle.core_worker.proofs.CopiedHolds as copied
use Rattle.core_worker.proofs.CopiedRoom.{copied_room, way_now}
use Rattle.core_worker.proofs.CopiedStands.{copied_stands}
use Rattle.core_worker.proofs.DoomedHolds as cleaning
use Rattle.core_worker.proofs.HandKeys.{holds_key}
use Rattle.core_worker.proofs.Led.{runs_whole}
use Rattle.core_worker.proofs.LeftItems.{IsLawful, lowers_step}
use Rattle.core_worker.proofs.PostMoves.{fault_moves, kept_key}
use Rattle.core_worker.proofs.QuietMoves.{for_same, quiet_moves, runs_in}
use Rattle.core_worker.proofs.StockFacts.{still_spend, stock_small}
use Rattle.core_worker.proofs.TurnLaws.{nothing_fixed, looked_holds, looked_stands, looked_order}
use Rattle.core_worker.proofs.UnderWay.{none_way}
use Rattle.core_worker.proofs.Writing.{Same, blocks_stay, taken_free, takes_same}

-- What is left has room where nothing is opened, by the supply that was asked.
pub fits_of : (w : Worker) (victim : Victim) (first : Bool) → under_way w ≡ Copying victim first → (supply : Supply) → supply ≡ supply_of w → supply.rest_lines ≤ supply.open_lines → rest (Copying victim first) ≤ room_of w.log
fits_of w victim first way supply is fits = (let a = ap (λ (y : Supply). y.rest_lines) is in let b = ap (λ (y : Supply). y.open_lines) is in let c = ap rest way in omega (arith, a, b, c, fits))

pub lacks_of : (w : Worker) (victim : Victim) (first : Bool) → under_way w ≡ Copying victim first → (supply : Supply) → supply ≡ supply_of w → supply.open_lines < supply.rest_lines → room_of w.log < rest (Copying victim first)
lacks_of w victim first way supply is lacks = (let a = ap (λ (y : Supply). y.rest_lines) is in let b = ap (λ (y : Supply). y.open_lines) is in let c = ap rest way in omega (arith, a, b, c, lacks))

-- So the words of the batch have room where they go.
pub has_room : (s : State) (p : Place) (m : ℕ) (v : View) (w : Worker) (victim : Victim) (first : Bool) → Holds p m v w → Stands s p m v w → under_way w ≡ Copying victim first → (f : Bool) (a : Sets) (o : Option ℕ) → TakesChunkIf f w.allocator a o → (o ≡ None → rest (Copying victim first) ≤ room_of w.log) → HasRoom s w.log victim.words o
has_room s p m v w victim first H S way f a None takes fits = (let room = fits refl in omega (arith, room))
has_room s p m v w victim first H S way f a (Some j) takes fits =
    let free = taken_free f w.allocator a j takes in
    let third = (cleaning.begun p m v w H victim first way).third in
    (omega (arith, third), subst (λ (l : Geometry). j < l.chunks) (H.allocator_layout ∙ sym H.log_layout) (H.sets.free_in j free).0, λ telling. (S.free (cleaning.cleans p m v w H victim first way).runs j free telling).1)

-- where no chunk was taken the allocator is as it was
pub none_same : (f : Bool) (old new : Sets) (o : Option ℕ) → TakesChunkIf f old new o → o ≡ None → new ≡ old
none_same true old new None takes none = takes.1
none_same true old new (Some j) takes none = absurd (cc none)
none_same false old new o takes none = takes.1

pub measured_there : (p : Place) (m : ℕ) (v : View) (w : Worker) → Holds p m v w → IsMeasured w
measured_there p m v w H = record {
  eight = H.eight;
  counted = each w.places.items (λ i lt. let eight = H.eight in let low : i < 8 = omega (arith, lt, eight) in counted p m v i (place_at w.places.items i) (H.placed i low));
  small = small_way p m v w H.cleaning;
  layout = H.allocator_layout ∙ sym H.layout;
}

-- nothing is in flight while copies are made, so that their commit changes nothing of the view but what was looked at
pub flying_none : (p : Place) (m : ℕ) (v : View) (w : Worker) → Holds p m v w → (victim : Victim) (first : Bool) → under_way w ≡ Copying victim first → v.flying ≡ []
flying_none p m v w H victim first way =
    let C = cleaning.cleans p m v w H victim first way in
    let had : LeadsAt H.leads.seat v (leads.Nothing C.idle.0) = subst (LeadsAt H.leads.seat v) C.idle.1 H.leads.at in
    had.2 (runs_whole p m v w H C.runs)

pub view_still : (v : View) → v.flying ≡ [] → after_commit v ≡ record v { looked = [] }
view_still v none = (λ i. record v { kept = (ap (λ (es : List Entry). v.kept ++ es) none ∙ append-nil v.kept) i; flying = sym none i; looked = [] })

module _ (p : Place) (m : ℕ) (v u : View) (w x : Worker) (victim : Victim) (first : Bool) (H : Holds p m v w) (way : under_way w ≡ Copying victim first) (some : 0 < victim.entries) (K : CopiesOn victim first w x) (view : u ≡ record v { looked = [] }) (N : Holds p m u x) where
  stopped_is : x.stopped ≡ w.stopped
  stopped_is = ap (λ (y : Worker). y.stopped) K.same

  place_same : (k : ℕ) → (hands_of u x).place k ≡ (hands_of v w).place k
  place_same k = ap (λ (y : Worker). (hands_of u y).place k) K.same ∙ for_same v u w.places.items k (ap (λ (y : View). y.pending) view) (ap (λ (y : View). y.blocks) view)

  waits_same : (k : ℕ) → (hands_of u x).waits k ≡ (hands_of v w).waits k
  waits_same k = ap (λ (y : Worker). map asked_by (filter (λ h. key_of h.request == k) (option_to_list y.in_hand) ++ waiting y.queue k)) K.same

  pub copied_moves : (s t : State) (before after : Option Group) → During s t (KeepsOutside (cell_now s) (part_at p m) (part_end p m)) → During s t (Licensed p m v) → (IsTelling t → Licensed p m u (cell_now t)) → Steps before after m u
      → WorkerMoves p m s t before after v u (hands_of v w) (hands_of u x) [] []
  copied_moves s t before after outside moments exit made = record {
    outside = outside;
    moments = moments;
    exit = exit;
    steps = made.0;
    whole = runs_in m made.0 u before after made.1;
    own = λ y i. absurd i;
    keys = λ k own. kept_key v u (hands_of v w) (hands_of u x) k (ap (λ (y : View). y.cell k) view) (ap (λ (y : View). y.pending k) view) (place_same k) (waits_same k);
    holds = λ k own. holds_key p m u x N k;
    refuses = λ k own. quiet_refuses p.layout (stock_of w) (v.last k) (u.last k) (let same = ap (λ (y : View). y.last k) view in omega (arith, same));
    spends = record {
      runs = λ y i full. absurd i;
      stays = λ k y own at none. (y, place_same k ∙ at, refl, λ t. t);
      begun = None;
      begins = λ y is. absurd (cc is);
      posts = inl (ap (λ (y : View). y.posted) view);
      spends = λ on. inr (record { scarce = (cleaning.cleans p m v w H victim first way).scarce; accepts_none = refl; fixes_none = refl; small = stock_small p m u x N });
    };
    stops = λ e. inl (sym stopped_is ∙ e);
    breaks = N.broken;
    stays_stopped = λ e. stopped_is ∙ e;
  }

  -- less is left to be copied
  pub copied_less : left x < left w
  copied_less = by (ltb K.count 64) refl where
    to : Victim
    to = left_of victim K.count (length K.words)

    fewer : (b : Bool) → ltb K.count 64 ≡ b → to.entries < victim.entries
    fewer true e = (let is : to.entries ≡ 0 = ap (λ (b : Bool). cond {A = ℕ} b 0 (victim.entries - K.count)) e in omega (arith, is, some))
    fewer false e = (let is : to.entries ≡ victim.entries - K.count = ap (λ (b : Bool). cond {A = ℕ} b 0 (victim.entries - K.count)) e in let full = ltb-false K.count 64 e in omega (arith, is, full, some))

    by : (b : Bool) → ltb K.count 64 ≡ b → left x < left w
    by b e =
        let same = ap serves_left K.same in
        let kept = ap (λ (y : Worker). clears_left y.accepted y.cleaning y.standing y.index y.notices.items) K.same in
        let raw = cleaning.raw p m v w H victim first way in
        let most = raw.fewer.0 in
        let was = ap (λ (c : Cleaning). clears_left w.accepted c w.standing w.index w.notices.items) raw.is in
        let low = fewer b e in
        let less = clears.copies w.accepted false first w.standing x.standing w.index w.notices.items raw.victim to (raw.victim.entries - to.entries) (omega (arith, low, most)) (omega (arith, low, most)) K.batch.names.count in
        omega (arith, same, kept, was, less)

pub copied_lower : (before after : Option Group) (m : ℕ) (u : View) (w x : Worker) → Makes before m Kind.Commit after u → IsLawful before → left x < left w → Lowers before after w x
copied_lower before after m u w x made lawful less = lowers_step before after m Kind.Commit u w x made lawful (λ a b L step. let way = ap counts.group_left step.1 in omega (arith, way, less))

-- The batch keeps what a turn keeps.
pub keeps_copied : (seat : SeatAt) (s t : State) (before after : Option Group) (v u : View) (w x : Worker) (victim : Victim) (first : Bool) (H : HoldsAt seat v w) (S : StandsAt s seat v w) (O : InOrderAt seat v w) (own : IsOwn w.log) (way : under_way w ≡ Copying victim first) (some : 0 < victim.entries)
    (K : CopiesOn victim first w x) → CopiesInRegion s t victim w.log x.log w.standing x.standing K.count K.words → WritesOpenChunk s t (opened_for w.log K.fresh) → u ≡ after_commit v → (IsTelling t → Licensed seat.place seat.number u (cell_now t)) → StaysLicensed s t seat v → WritesPart s t seat → Steps before after seat.number u
    → KeepsTurn seat s t before after v u w x
keeps_copied seat s t before after v u w x victim first H S O own way some K R chunk commit exit moments outside made =
    let view : u ≡ record v { looked = [] } = commit ∙ view_still v (flying_none seat.place seat.number v w H victim first way) in
    let C = cleaning.cleans seat.place seat.number v w H victim first way in
    let exit_v : IsTelling t → Licensed seat.place seat.number v (cell_now t) = λ telling image may. allowed seat.place seat.number u v image (record { kept = sym (ap (λ (y : View). y.kept) view); flying = sym (ap (λ (y : View). y.flying) view); doomed = λ k n d. sym (ap (λ (y : View). y.doomed k n) view) ∙ d; blocks = λ q b is. ap (λ (y : View). y.blocks q) view ∙ is }) (exit telling image may) in
    let leads_none : LeadsNothing x = (C.idle.0, ap (λ (y : Worker). y.leading) K.same ∙ C.idle.1) in
    let N = looked_holds seat v u x [] view leads_none (copied.copied_holds seat.place seat.number v w x victim first H own way some K) in
    record {
      moments = moments;
      outside = outside;
      holds = N;
      stands = looked_stands t seat v u x [] view (copied_stands s t seat.place seat.number v w x victim first H S own way some K R chunk exit_v);
      order = looked_order seat v u x [] view (copied.copied_order seat.place seat.number v w x victim first H own way some K O);
      rule = λ r had. copied_room seat.place seat.number v w x victim first H own way some K had;
      moves = nothing_fixed seat s t before after v u w x (ap (λ (y : Worker). y.answers) K.same) (copied_moves seat.place seat.number v u w x victim first H way some K view N s t before after outside moments exit made);
    }

-- A cleaning that is left as it stands.
module _ (s : State) (p : Place) (m : ℕ) (v : View) (w : Worker) (victim : Victim) (first : Bool) (H : Holds p m v w) (S : Stands s p m v w) (O : InOrder p m v w) (way : under_way w ≡ Copying victim first) where
  abbrev leaves : Worker
  leaves = record w { cleaning = Nothing; clearing = None }

  left_holds : Holds p m v leaves
  left_holds = record {
    place = H.place;
    member = H.member;
    core = H.core;
    layout = H.layout;
    log_layout = H.log_layout;
    log_part = H.log_part;
    sets = H.sets;
    allocator_layout = H.allocator_layout;
    allocator_part = H.allocator_part;
    spelled = H.spelled;
    eight = H.eight;
    placed = H.placed;
    apart = H.apart;
    pending = H.pending;
    admitted = H.admitted;
    keys = H.keys;
    mail = H.mail;
    blocks = H.blocks;
    waits = H.waits;
    leads = H.leads;
    space = λ r. subst (HasSpaceFor leaves) (sym (cleaning.cleans p m v w H victim first way).idle.1) tt;
    broken = H.broken;
    lost = H.lost;
    flight = H.flight;
    cleaning = inl (none_way leaves refl);
    remembers = H.remembers;
    chunks = H.chunks;
  }

  left_stands : Stands s p m v leaves
  left_stands = record {
    lies = S.lies;
    licensed = S.licensed;
    landed = S.landed;
    log = S.log;
    free = S.free;
    due = S.due;
    cut = S.cut;
    names = λ r on telling. let N = S.names r on telling in record { counted = N.counted; read = N.read; floors = N.floors; knows = N.knows; cleaned = tt };
  }

  left_order : InOrder p m v leaves
  left_order = record {
    owned = O.owned;
    single = O.single;
    distinct = O.distinct;
    heard = O.heard;
    told = O.told;
    versions = O.versions;
    mine = O.mine;
    next = O.next;
    spelled = O.spelled;
    recalls = O.recalls;
    answers = O.answers;
    hand = O.hand;
    stops = O.stops;
    agrees = O.agrees;
    log = O.log;
    names = O.names;
  }

  left_rule : HasKeptRoom w → HasKeptRoom leaves
  left_rule had = subst (λ (c : Cleaning). KeepsRule c (supply_of leaves)) (sym none) (by first (subst (λ (c : Cleaning). KeepsRule c (supply_of w)) way had)) where
    none : under_way leaves ≡ Nothing
    none = none_way leaves refl

    rests : rest (under_way leaves) ≡ 0
    rests = ap rest none

    fits : KeepsRoom (supply_of w) → KeepsRoom (supply_of leaves)
    fits k = ⊎_elim (λ a. inl (let zero = rests in omega (arith, a, zero))) (λ two. inr two) k

    by : (b : Bool) → KeepsRule (Copying victim b) (supply_of w) → KeepsRoom (supply_of leaves)
    by true k = ⊎_elim fits (λ r. inl (let low = r.0 in let zero = rests in omega (arith, low, zero))) k
    by false k = fits k

  pub leaves_less : left leaves < left w
  leaves_less =
      let raw = cleaning.raw p m v w H victim first way in
      let was = ap (λ (c : Cleaning). clears_left w.accepted c w.standing w.index w.notices.items) raw.is in
      let less = clears.leaves w.accepted first w.standing w.index w.notices.items raw.victim in
      omega (arith, was, less)

pub leaves_lower : (s : State) (p : Place) (m : ℕ) (v : View) (w x : Worker) (victim : Victim) (first : Bool) → Holds p m v w → Stands s p m v w → InOrder p m v w → under_way w ≡ Copying victim first → x ≡ record w { cleaning = Nothing; clearing = None } → left x < left w
leaves_lower s p m v w x victim first H S O way same = (let is = ap left same in let less = leaves_less s p m v w victim first H S O way in omega (arith, is, less))

pub keeps_left : (seat : SeatAt) (s : State) (before : Option Group) (v : View) (w x : Worker) (victim : Victim) (first : Bool) (H : HoldsAt seat v w) → StandsAt s seat v w → InOrderAt seat v w → under_way w ≡ Copying victim first → (x ≡ record w { cleaning = Nothing; clearing = None }) → Steps before before seat.number v → KeepsTurn seat s s before before v v w x
keeps_left seat s before v w x victim first H S O way same made =
    let N = left_holds s seat.place seat.number v w victim first H S O way in
    let y : Worker = record w { cleaning = Nothing; clearing = None } in
    subst (λ (z : Worker). KeepsTurn seat s s before before v v w z) (sym same) (record {
      moments = started s (Licensed seat.place seat.number v) S.licensed;
      outside = all_kept s (part_at seat.place seat.number) (part_end seat.place seat.number);
      holds = N;
      stands = left_stands s seat.place seat.number v w victim first H S O way;
      order = left_order s seat.place seat.number v w victim first H S O way;
      rule = λ r had. left_rule s seat.place seat.number v w victim first H S O way had;
      moves = nothing_fixed seat s s before before v v w y refl
          (quiet_moves seat.place seat.number s s before before v v w y N (all_kept s (part_at seat.place seat.number) (part_end seat.place seat.number)) (started s (Licensed seat.place seat.number v) S.licensed) S.licensed made
          refl refl refl refl refl
          (λ on. still_spend seat.place.layout v.took v.flying v.took v.flying (stock_of w) (stock_of y) (record { chunks = omega arith; lines = omega arith; blocks = λ c. omega arith }) (stock_small seat.place seat.number v y N) (omega arith))
          (λ k. refl) refl refl (λ e. inl e) (λ e. e));
    })

-- What the region read otherwise was not copied: the worker is as after a batch of none, and leaves the chunk.
module _ (seat : SeatAt) (s t : State) (before after : Option Group) (v u : View) (w x : Worker) (victim : Victim) (first : Bool) (H : HoldsAt seat v w) (S : StandsAt s seat v w) (O : InOrderAt seat v w) (own : IsOwn w.log) (way : under_way w ≡ Copying victim first) (some : 0 < victim.entries)
    (M : MisreadsCopies t victim first w x) (T : KeepsTurn seat s t before after v u w M.mid) where
  abbrev rest_of : Victim
  rest_of = no_more_than (left_in M.mid.standing) (left_of victim M.copies.count (length M.copies.words))

  way_mid : under_way M.mid ≡ Copying rest_of false
  way_mid = way_now seat.place seat.number v w M.mid victim first H own way some M.copies

  pub keeps_misread : KeepsTurn seat s t before after v u w x
  keeps_misread = subst (λ (z : Worker). KeepsTurn seat s t before after v u w z) (sym M.same) (record {
    moments = T.moments;
    outside = T.outside;
    holds = left_holds t seat.place seat.number u M.mid rest_of false T.holds T.stands T.order way_mid;
    stands = left_stands t seat.place seat.number u M.mid rest_of false T.holds T.stands T.order way_mid;
    order = left_order t seat.place seat.number u M.mid rest_of false T.holds T.stands T.order way_mid;
    rule = λ r had. left_rule t seat.place seat.number u M.mid rest_of false T.holds T.stands T.order way_mid (T.rule r had);
    moves = record { fixed = T.moves.fixed; answers = T.moves.answers; moves = T.moves.moves };
  })

  pub misread_less : left M.mid < left w → left x < left w
  misread_less less = (let is = ap left M.same in let fewer = leaves_less t seat.place seat.number u M.mid rest_of false T.holds T.stands T.order way_mid in omega (arith, is, less, fewer))

-- A batch that is lost: the core has stopped, and nothing else became of it.
module _ (s t : State) (p : Place) (m : ℕ) (v : View) (w x : Worker) (victim : Victim) (first : Bool) (H : Holds p m v w) (S : Stands s p m v w) (O : InOrder p m v w) (way : under_way w ≡ Copying victim first) (L : LosesCopies first w x) where
  abbrev stops : Worker
  stops = record w { log = x.log; allocator = x.allocator; standing = x.standing; copies = x.copies; stopped = true }

  same : Same w.allocator x.allocator
  same = takes_same (needs_chunk first w) w.allocator x.allocator L.fresh L.takes

  lost_holds : Holds p m v stops
  lost_holds = let B = holds_stopped p m v w H (cleaning.cleans p m v w H victim first way).runs in record {
    place = H.place;
    member = H.member;
    core = H.core;
    layout = H.layout;
    log_layout = L.layout ∙ H.log_layout;
    log_part = L.part ∙ H.log_part;
    sets = L.sets;
    allocator_layout = same.layout ∙ H.allocator_layout;
    allocator_part = same.part ∙ H.allocator_part;
    spelled = H.spelled;
    eight = H.eight;
    placed = H.placed;
    apart = H.apart;
    pending = B.pending;
    admitted = H.admitted;
    keys = B.keys;
    mail = H.mail;
    blocks = blocks_stay v w.allocator x.allocator w.places.items same H.blocks;
    waits = H.waits;
    leads = H.leads;
    space = λ r. absurd (cc r);
    broken = λ b. refl;
    lost = λ l. refl;
    flight = B.flight;
    cleaning = inl refl;
    remembers = λ r. absurd (cc r);
    chunks = λ r. absurd (cc r);
  }

  lost_stands : t.frame ≡ s.frame → (IsTelling t → Licensed p m v (cell_now t)) → Stands t p m v stops
  lost_stands fr exit = record {
    lies = (let B = S.lies in record {
      low = subst (λ (y : Frame). y.first ≤ part_first x.allocator.layout x.allocator.part) (sym fr) (subst (λ (y : ℕ). s.frame.first ≤ y) (λ i. part_first (sym same.layout i) (sym same.part i)) B.low);
      high = subst (λ (y : Frame). part_first x.allocator.layout (x.allocator.part + 1) ≤ y.first + y.words) (sym fr) (subst (λ (y : ℕ). y ≤ s.frame.first + s.frame.words) (λ i. part_first (sym same.layout i) (sym same.part i + 1)) B.high);
      fits = subst (λ (y : Frame). y.first + y.words < 2 ^ 64) (sym fr) B.fits;
    });
    licensed = exit;
    landed = λ unlost telling. subst (λ (y : View). Licensed p m y (cell_now t)) (λ i. record v { flying = flying_none p m v w H victim first way i }) (exit telling);
    log = λ r. absurd (cc r);
    free = λ r. absurd (cc r);
    due = λ r. absurd (cc r);
    cut = λ r. absurd (cc r);
    names = λ r. absurd (cc r);
  }

  lost_order : InOrder p m v stops
  lost_order = record {
    owned = O.owned;
    single = O.single;
    distinct = O.distinct;
    heard = O.heard;
    told = O.told;
    versions = O.versions;
    mine = O.mine;
    next = O.next;
    spelled = O.spelled;
    recalls = O.recalls;
    answers = O.answers;
    hand = O.hand;
    stops = λ is. subst MayLeadStopped (sym (cleaning.cleans p m v w H victim first way).idle.1) tt;
    agrees = O.agrees;
    log = λ r. absurd (cc r);
    names = λ r. absurd (cc r);
  }

  pub lost_less : left x < left w
  lost_less =
      let now = ap left L.same in
      let one : cond {A = ℕ} w.stopped 0 1 ≡ 1 = ap (λ (b : Bool). cond {A = ℕ} b 0 1) (cleaning.cleans p m v w H victim first way).runs in
      let names = clears.counted w.accepted w.cleaning w.standing x.standing w.index w.notices.items L.names.count in
      omega (arith, now, one, names)

pub keeps_lost : (seat : SeatAt) (s t : State) (before after : Option Group) (v u : View) (w x : Worker) (victim : Victim) (first : Bool) (H : HoldsAt seat v w) → StandsAt s seat v w → InOrderAt seat v w → under_way w ≡ Copying victim first → LosesCopies first w x → u ≡ v → after ≡ before → t.frame ≡ s.frame → (IsTelling t → Licensed seat.place seat.number v (cell_now t))
    → StaysLicensed s t seat v → WritesPart s t seat → Rose s.faults t.faults → KeepsTurn seat s t before after v u w x
keeps_lost seat s t before after v u w x victim first H S O way L view group frame exit moments outside rose =
    let N = lost_holds s t seat.place seat.number v w x victim first H S O way L in
    let y : Worker = record w { log = x.log; allocator = x.allocator; standing = x.standing; copies = x.copies; stopped = true } in
    subst (λ (z : Worker). KeepsTurn seat s t before after v u w z) (sym L.same) (subst (λ (z : View). KeepsTurn seat s t before after v z w y) (sym view)
    (subst (λ (g : Option Group). KeepsTurn seat s t before g v v w y) (sym group) (record {
      moments = moments;
      outside = outside;
      holds = N;
      stands = lost_stands s t seat.place seat.number v w x victim first H S O way L frame exit;
      order = lost_order s t seat.place seat.number v w x victim first H S O way L;
      rule = λ r. absurd (cc r);
      moves = nothing_fixed seat s t before before v v w y refl (fault_moves seat.place seat.number s t before v w y N (λ k. refl) (λ k. refl) refl outside moments exit rose);
    })))
