-- A batch of copies: what it leaves of a worker's ties and of its order.
use Rattle.std.proofs.Common.{◌≡◌, ◌≢◌, inr, ℕ, ◌<◌, Bool, true, false, length, Option, Some, None, refl, sym, ◌∙◌, ap, subst, arith}
use Rattle.std.specs.Prelude.{is_some}
use Rattle.chunk_map.specs.Layouts.{payload_lines}
use Rattle.core_log.specs.Log.{LogState, IsOwn, tail_of}
use Rattle.core_log.proofs.Clients.{open_has}
use Rattle.lazy_alloc.specs.Sets.{chunk_is_free}
use Rattle.log_cleaner.specs.declared.types.Victim.{Victim}
use Rattle.group_laws.specs.Places.{Place}
use Rattle.group_laws.specs.MemberViews.{View}
use Rattle.batch_leader.specs.Persisting.{opened_for}
use Rattle.core_worker.specs.declared.types.Cleaning.TheVariants.{Copying}
use Rattle.core_worker.specs.declared.worker.Worker.{Worker}
use Rattle.core_worker.specs.CopyItems.{CopiesOn, needs_chunk}
use Rattle.core_worker.specs.CopyTurns.{left_of}
use Rattle.core_worker.specs.KeepsCleaning.{Cleans, IsBegun}
use Rattle.core_worker.specs.Order.{InOrder}
use Rattle.core_worker.specs.OwnChunks.{AreChunks, IsTaken}
use Rattle.core_worker.specs.Supplies.{under_way}
use Rattle.core_worker.specs.TakenChunks.{TakesChunkIf}
use Rattle.core_worker.specs.Ties.{HasSpaceFor, Holds}
use Rattle.core_worker.proofs.ChunksKept.{HasOpen, opened_more, taken_still}
use Rattle.core_worker.proofs.CopiedLog.{copied_layout, copied_part, copied_opened, copied_more, opened_part, chunks_copied, room_open, taken_few, left_few, left_short}
use Rattle.core_worker.proofs.DoomedHolds as cleaning
use Rattle.core_worker.proofs.UnderWay.{fewer_lines}
use Rattle.core_worker.proofs.Writing.{Same, takes_same, taken_free, blocks_stay, opened_layout}

module _ (p : Place) (m : ℕ) (v : View) (w x : Worker) (victim : Victim) (first : Bool) (H : Holds p m v w) (own : IsOwn w.log) (way : under_way w ≡ Copying victim first) (some : 0 < victim.entries) (K : CopiesOn victim first w x) where
  abbrev C : Cleans p m v.doomed v.dead w.stopped w.winds_down w.leading w.log w.allocator w.standing w.clearing w.own_gone w.notices.items w.cleaning
  C = cleaning.cleans p m v w H victim first way

  abbrev B : IsBegun w.log C.now victim first
  B = cleaning.begun p m v w H victim first way

  abbrev opened : LogState
  opened = opened_for w.log K.fresh

  abbrev left : Victim
  left = left_of victim K.count (length K.words)

  abbrev pub to : Worker
  to = record w { log = x.log; allocator = x.allocator; standing = x.standing; copies = x.copies; cleaning = Copying left false }

  pub has_open : HasOpen w.log K.fresh
  has_open none =
      let room = K.fits none in
      ap is_some (open_has w.log own (room_open w.log (omega (arith, room, some))))

  pub chunk_taken : IsTaken w.allocator C.now.chunk
  chunk_taken = (C.taken, C.uncut)

  layout_is : x.log.layout ≡ w.log.layout
  layout_is = ap (λ (l : LogState). l.layout) K.batch.log_is ∙ copied_layout K.count opened K.words ∙ opened_layout w.log K.fresh

  part_is : x.log.part ≡ w.log.part
  part_is = ap (λ (l : LogState). l.part) K.batch.log_is ∙ copied_part K.count opened K.words ∙ opened_part w.log K.fresh

  same : Same w.allocator x.allocator
  same = takes_same (needs_chunk first w) w.allocator x.allocator K.fresh K.takes

  pub log_more : (i : ℕ) → is_some (tail_of w.log.chunks i) ≡ true → is_some (tail_of x.log.chunks i) ≡ true
  log_more i has = ap (λ (l : LogState). is_some (tail_of l.chunks i)) K.batch.log_is ∙ copied_more K.count opened K.words i (opened_more w.log K.fresh i has)

  pub still_closed : x.log.opened ≢ Some C.now.chunk
  still_closed at = by K.fresh refl (sym (ap (λ (l : LogState). l.opened) K.batch.log_is ∙ copied_opened K.count opened K.words) ∙ at) where
    by : (o : Option ℕ) → K.fresh ≡ o → (opened_for w.log K.fresh).opened ≡ Some C.now.chunk → ⊥
    by None e is = C.closed (ap (λ (f : Option ℕ). (opened_for w.log f).opened) (sym e) ∙ is)
    by (Some j) e is =
        let here : Some j ≡ Some C.now.chunk = ap (λ (f : Option ℕ). (opened_for w.log f).opened) (sym e) ∙ is in
        let j_is : j ≡ C.now.chunk = cc here in
        let free = taken_free (needs_chunk first w) w.allocator x.allocator j (subst (λ (f : Option ℕ). TakesChunkIf (needs_chunk first w) w.allocator x.allocator f) e K.takes) in
        (let both : true ≡ false = sym free ∙ ap (chunk_is_free w.allocator) j_is ∙ C.taken in cc both)

  pub chunks_now : AreChunks p.layout.chunks x.allocator x.log.chunks
  chunks_now = chunks_copied p.layout.chunks (needs_chunk first w) w.allocator x.allocator K.fresh w.log x.log K.count K.words H.sets K.takes has_open K.batch.log_is (H.chunks C.runs)

  begun_now : IsBegun x.log C.now left false
  begun_now = record {
    chunk = B.chunk;
    fresh = B.fresh;
    small = (let few = left_few victim.entries K.count in let short = left_short victim.words K.count (length K.words) in let one = B.small.0 in let two = B.small.1 in (omega (arith, short, one), omega (arith, few, two)));
    third = (let third = B.third in let less = fewer_lines left.entries left.words victim.entries victim.words (left_few victim.entries K.count) (left_short victim.words K.count (length K.words)) in let lay = ap payload_lines layout_is in omega (arith, third, less, lay));
  }

  taken_now : IsTaken x.allocator C.now.chunk
  taken_now = taken_still (needs_chunk first w) w.allocator x.allocator K.fresh K.takes C.now.chunk chunk_taken

  cleans_now : Cleans p m v.doomed v.dead w.stopped w.winds_down w.leading x.log x.allocator x.standing w.clearing w.own_gone w.notices.items (Copying left false)
  cleans_now = record {
    goes = tt;
    runs = C.runs;
    works = C.works;
    idle = C.idle;
    now = C.now;
    is = C.is;
    chunk = log_more C.now.chunk C.chunk;
    closed = still_closed;
    taken = taken_now.0;
    uncut = taken_now.1;
    scarce = (let few = taken_few (needs_chunk first w) w.allocator x.allocator K.fresh K.takes in let was = C.scarce in omega (arith, few, was));
    phase = begun_now;
    own_places = cleaning.room_here p m v w H victim first way;
    places = cleaning.room_boxes p m v w H victim first way;
  }

  pub copied_holds : Holds p m v x
  copied_holds = subst (λ (y : Worker). Holds p m v y) (sym K.same) (record {
    place = H.place;
    member = H.member;
    core = H.core;
    layout = H.layout;
    log_layout = layout_is ∙ H.log_layout;
    log_part = part_is ∙ H.log_part;
    sets = K.sets;
    allocator_layout = same.layout ∙ H.allocator_layout;
    allocator_part = same.part ∙ H.allocator_part;
    spelled = H.spelled;
    eight = H.eight;
    placed = H.placed;
    apart = H.apart;
    pending = H.pending;
    admitted = H.admitted;
    keys = H.keys;
    mail = H.mail;
    blocks = blocks_stay v w.allocator x.allocator w.places.items same H.blocks;
    waits = H.waits;
    leads = H.leads;
    space = λ r. subst (HasSpaceFor to) (sym C.idle.1) tt;
    broken = H.broken;
    lost = H.lost;
    flight = H.flight;
    cleaning = inr cleans_now;
    remembers = H.remembers;
    chunks = λ r. chunks_now;
  })

  pub copied_order : InOrder p m v w → InOrder p m v x
  copied_order O = subst (λ (y : Worker). InOrder p m v y) (sym K.same) (record {
    owned = O.owned;
    single = O.single;
    distinct = O.distinct;
    heard = O.heard;
    told = O.told;
    versions = O.versions;
    mine = O.mine;
    next = O.next;
    spelled = O.spelled;
    recalls = O.recalls;
    answers = O.answers;
    hand = O.hand;
    stops = O.stops;
    agrees = O.agrees;
    log = λ r on. (let L = O.log r on in record { deaths = λ k n is. L.deaths k n (sym (K.batch.names.told k n) ∙ is); buried = L.buried; own = L.own; heard = L.heard });
    names = λ r on. (let were = O.names r on in let room = K.batch.names.room in omega (arith, were, room));
  })
