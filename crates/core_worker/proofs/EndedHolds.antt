-- What the end of a cleaning leaves of the ties of a worker.
use Rattle.std.proofs.Common.{◌≡◌, ◌≢◌, inl, inr, ⊎_elim, ℕ, ◌+◌, ◌≤◌, ◌||◌, ◌&&◌, not, eqb, Bool, true, false, cond, List, [], length, Option, Some, None, option_map, refl, sym, ◌∙◌, ap, subst, arith}
use Rattle.std.specs.Prelude.{is_some}
use Rattle.std.proofs.lemmas.Bool.{cases_eq, eqb-true, eq-eqb, ne_eqb, and_parts}
use Rattle.log_entry.specs.declared.entry.Entry.{Entry}
use Rattle.log_entry.specs.declared.entry.EntryName.{EntryName}
use Rattle.log_entry.specs.declared.entry.Body.{Body}
use Rattle.log_entry.specs.declared.entry.Body.TheVariants as bodies
use Rattle.log_entry.specs.Spelling.{HasSpelling}
use Rattle.store_image.specs.Facts.{In}
use Rattle.core_log.specs.Log.{LogState, tail_of, without}
use Rattle.core_log.proofs.Clients.{without_other}
use Rattle.core_index.specs.Index.{known_at, room_at}
use Rattle.core_index.specs.Records.{KeyRecord, standing_of, standing_at}
use Rattle.core_index.specs.declared.types.StandingEntry.{StandingEntry}
use Rattle.lazy_alloc.specs.Sets.{chunk_is_free}
use Rattle.lazy_alloc.proofs.Clients.{class_same}
use Rattle.log_cleaner.specs.Clearing.{ClearingState}
use Rattle.group_laws.specs.declared.types.Pending.{Pending}
use Rattle.group_laws.specs.Places.{Place, core_of, owner}
use Rattle.group_laws.specs.Updates.{has}
use Rattle.group_laws.specs.MemberViews.{View}
use Rattle.group_laws.proofs.Names.{without_stays}
use Rattle.group_board.specs.Views.{after_retire, IsTidyIn, TidiedIn}
use Rattle.recover.specs.Starts.{IsSpelledIndex}
use Rattle.core_worker.specs.declared.types.Leading.TheVariants as leads
use Rattle.core_worker.specs.declared.types.Place as places
use Rattle.core_worker.specs.declared.types.Place.TheVariants.{Free, Staged, Posted}
use Rattle.core_worker.specs.declared.worker.Worker.{Worker}
use Rattle.core_worker.specs.OwnPlaces.{place_at, key_in, is_busy}
use Rattle.core_worker.specs.OwnChunks.{HasChunk}
use Rattle.core_worker.specs.KeyTies.{IsPlaced, IsStagedBlock, IsBlockFor, KnowsKey}
use Rattle.core_worker.specs.GoneNames.{first_of, restarted_by, is_forgotten, lacking, KnowsAll, LetsNamesGo, SparesPosted}
use Rattle.core_worker.specs.Hearing.{HearsAll, last_change}
use Rattle.core_worker.specs.EndsCleaning.{EndsIn}
use Rattle.core_worker.specs.Order.{InOrder}
use Rattle.core_worker.specs.Outbox.{mailing, waiting_dead, KeepsMail}
use Rattle.conflict_queue.specs.Waiting.{waiting}
use Rattle.core_worker.specs.Ties.{LeadsAt, HasSpaceFor, Holds, in_flight, is_lost}
use Rattle.core_worker.proofs.Flight.{runs_unlost, unlost_keeps}
use Rattle.core_worker.proofs.EndedKeys.{knows_all, key_restarted}
use Rattle.core_worker.proofs.FiledMail.{waiting_is, mail_filed}
use Rattle.core_worker.proofs.GoneKeys.{knows_after, placed_after}
use Rattle.core_worker.proofs.Posts.{busy_same}
use Rattle.core_worker.proofs.HeardMail.{told_swap, told_still}
use Rattle.core_worker.proofs.MailKept.{told_by, mail_tidy, mail_still, none_waits, StillTells, still_then, still_tidied}
use Rattle.core_worker.proofs.RetiredKeys.{lets_retired, was_some}
use Rattle.core_worker.proofs.StartKeys.{changed}
use Rattle.core_worker.proofs.UnderWay.{none_way}

module _ (p : Place) (m : ℕ) (v u : View) (w x : Worker) (c : ClearingState) (H : Holds p m v w) (O : InOrder p m v w) (E : EndsIn p m v u w x c) where
  abbrev pub left : View
  left = after_retire p m c.doomed v

  pub tidy : IsTidyIn p m left E.tidied.0 E.tidied.1 E.tidied.2
  tidy = E.tidied.3

  pub view_is : u ≡ record left { last = E.tidied.0; told = E.tidied.1; dead = E.tidied.2 }
  view_is = E.tidied.4

  pub heard : HearsAll (core_of p m) E.ends.mid x.index
  heard = subst (λ (n : ℕ). HearsAll n E.ends.mid x.index) H.core E.ends.heard

  abbrev pub all : List EntryName
  all = waiting_dead w.notices.items

  pub before : KnowsAll p m (mailing all v) w.places.items w.index
  before = knows_all p m v w H O E.runs

  -- a doomed own name was told, so it doesn't wait
  doomed_told : (k n : ℕ) → (eqb (owner p k) m && has c.doomed k n) ≡ true → v.told k n ≡ true
  doomed_told k n is =
      let both = and_parts (eqb (owner p k) m) (has c.doomed k n) is in
      O.agrees.dead_told k n (eqb-true (owner p k) m both.0) (E.may k n both.1).dies

  none_told : (k n : ℕ) → (eqb (owner p k) m && has c.doomed k n) ≡ true → has all k n ≡ false
  none_told k n is = none_waits p m v w.winds_down w.notices.items H.mail k n (λ y. (let yes = doomed_told k n is in let off = y.untold in let both : true ≡ false = sym yes ∙ off in cc both))

  -- what waits is told, and then what is gone is taken out: or the other way round
  pub view_path : after_retire p m c.doomed (mailing all v) ≡ mailing all left
  view_path = λ i. record left { told = λ k j. told_swap (eqb (owner p k) m && has c.doomed k j) (has all k j) (v.told k j) (none_told k j) i }

  pub tidied_all : TidiedIn p m (after_retire p m c.doomed (mailing all v)) (mailing all u)
  tidied_all = (
    E.tidied.0,
    told_by all E.tidied.1,
    E.tidied.2,
    subst (λ (y : View). IsTidyIn p m y E.tidied.0 (told_by all E.tidied.1) E.tidied.2) (sym view_path) (mail_tidy p m left all E.tidied.0 E.tidied.1 E.tidied.2 tidy),
    ap (mailing all) view_is,
  )

  abbrev pub goes : LetsNamesGo p m w.own_gone.items (mailing all v) (after_retire p m c.doomed (mailing all v)) (mailing all u) w.places.items x.places.items w.index x.index
  goes = lets_retired p m c.doomed w.own_gone.items (mailing all v) (mailing all u) w.places.items x.places.items w.index E.ends.mid x.index E.own tidied_all E.ends.loses heard

  pub after : KnowsAll p m (mailing all u) x.places.items x.index
  after = knows_after p m w.own_gone.items (mailing all v) (after_retire p m c.doomed (mailing all v)) (mailing all u) w.places.items x.places.items w.index x.index before goes

  -- what waits to be sent isn't doomed, and dies on
  still_left : StillTells p m v left
  still_left = record {
    stands = λ k i to mine other here not_told dies.
        let kept : (eqb (owner p k) m && has c.doomed k i) ≡ false = off k i not_told in (
          ap (λ (b : Bool). cond b None (v.present k i)) kept ∙ here,
          ap (λ (b : Bool). cond b false (v.told k i)) kept ∙ not_told,
          ⊎_elim (λ lt. inl lt) (λ x. inr (x.0, x.1, λ j h is. x.2 j h (was_some (eqb (owner p k) m && has c.doomed k j) (v.present k j) h is))) dies,
        );
    leaves = λ k i is. told_still (not (eqb (owner p k) m) && has c.doomed k i) (v.leaving k i) is;
  } where
    off : (k i : ℕ) → v.told k i ≡ false → (eqb (owner p k) m && has c.doomed k i) ≡ false
    off k i not_told = by (eqb (owner p k) m && has c.doomed k i) refl where
      by : (b : Bool) → (eqb (owner p k) m && has c.doomed k i) ≡ b → b ≡ false
      by false e = refl
      by true e = absurd (let yes = doomed_told k i e in let both : true ≡ false = sym yes ∙ not_told in cc both)

  still_now : StillTells p m v u
  still_now = subst (StillTells p m v) (sym view_is) (still_then p m v left (record left { last = E.tidied.0; told = E.tidied.1; dead = E.tidied.2 }) still_left (still_tidied p m left E.tidied.0 E.tidied.1 E.tidied.2 tidy))

  abbrev test : ℕ → Bool
  test = is_forgotten w.own_gone.items w.places.items E.ends.loses.mid

  pub place_is : (s : ℕ) → place_at x.places.items s ≡ restarted_by test (place_at w.places.items s)
  place_is = E.ends.loses.forgets.places

  pub keys_same : (s : ℕ) → key_in (place_at x.places.items s) ≡ key_in (place_at w.places.items s)
  keys_same s = ap key_in (place_is s) ∙ key_restarted test (place_at w.places.items s)

  pub busy_is : (k : ℕ) → is_busy x.places.items k ≡ is_busy w.places.items k
  busy_is = busy_same w.places.items x.places.items keys_same

  pub pending_is : (k : ℕ) → u.pending k ≡ v.pending k
  pending_is k = ap (λ (y : View). y.pending k) view_is

  pub blocks_is : u.blocks ≡ v.blocks
  blocks_is = ap (λ (y : View). y.blocks) view_is

  pub room_is : (k : ℕ) → room_at x.index k ≡ room_at w.index k
  room_is k = heard.room k ∙ E.ends.loses.forgets.room k ∙ E.ends.loses.lacks.room k

  -- the names that vanish are of changes that were finished
  pub spares : SparesPosted p m v u
  spares k s e own pends kept = subst (In e) (sym (ap (λ (y : View). y.kept) view_is)) (without_stays c.doomed v.kept e (by (has c.doomed e.key e.version) refl) kept) where
    posted : (e.key ≡ k) × (e.version ≡ v.last k + 1)
    posted = (
      ⊎_elim
          (λ y. let is : IsPlaced p m v y.0 (Posted y.1 k y.2) = subst (IsPlaced p m v y.0) y.4 (H.placed y.0 y.3) in
          let both : Some (record { entry = e; slot = Some s }) ≡ Some (record { entry = is.0; slot = Some y.0 }) = sym pends ∙ is.1 in
          ap entry_key both ∙ is.2)
          (λ y. absurd (let no = y.0 in cc no))
          (H.pending k (record { entry = e; slot = Some s }) pends),
      O.next k (record { entry = e; slot = Some s }) pends,
    )
      where
        entry_key : Option Pending → ℕ
        entry_key None = 0
        entry_key (Some q) = q.entry.key

    K : KnowsKey p (mailing all v) k (known_at w.index k)
    K = H.keys k own (inl E.runs)

    stood : (n : ℕ) → v.told k n ≡ true → n ≤ v.last k
    stood n told = present (v.present k n) refl where
      stands : (o : Option StandingEntry) → standing_at (standing_of (known_at w.index k)) n ≡ o → is_some o ≡ true → n ≤ v.last k
      stands None at some = absurd (cc some)
      stands (Some s) at some = let low = O.versions k n s at in let last = K.last in omega (arith, low, last)

      present : (o : Option ℕ) → v.present k n ≡ o → n ≤ v.last k
      present None none = absurd (let both : true ≡ false = sym told ∙ O.told k n none in cc both)
      present (Some h) is = stands (standing_at (standing_of (known_at w.index k)) n) refl (some_of (standing_at (standing_of (known_at w.index k)) n) (sym (K.present n) ∙ ap (option_map (core_of p)) is)) where
        some_of : (o : Option StandingEntry) → option_map (λ (s : StandingEntry). s.home) o ≡ Some (core_of p h) → is_some o ≡ true
        some_of None e = absurd (cc e)
        some_of (Some s) e = refl

    by : (b : Bool) → has c.doomed e.key e.version ≡ b → has c.doomed e.key e.version ≡ false
    by false is = is
    by true is =
        let dies = (E.may e.key e.version is).dies in
        let mine : owner p e.key ≡ m = ap (owner p) posted.0 ∙ own in
        let told : v.told k e.version ≡ true = sym (ap (λ (i : ℕ). v.told i e.version) posted.0) ∙ O.agrees.dead_told e.key e.version mine dies in
        let low = stood e.version told in
        let next = posted.1 in
        absurd (omega (arith, low, next))

  -- records keep what they were spelled in
  pub known_from : (k : ℕ) (r : KeyRecord) → known_at x.index k ≡ Some r → (q : KeyRecord) × (known_at w.index k ≡ Some q) × (r.version ≡ q.version) × (r.body ≡ q.body)
  known_from k r now = by_mid (known_at E.ends.mid k) refl where
    by_old : (o : Option KeyRecord) → known_at w.index k ≡ o → (z : KeyRecord) → option_map (lacking w.own_gone.items k) o ≡ Some z → (q : KeyRecord) × (known_at w.index k ≡ Some q) × (z.version ≡ q.version) × (z.body ≡ q.body)
    by_old None was z e = absurd (cc e)
    by_old (Some q) was z e = let same : lacking w.own_gone.items k q ≡ z = cc e in (q, was, sym (ap (λ (y : KeyRecord). y.version) same), sym (ap (λ (y : KeyRecord). y.body) same))

    by_test : (b : Bool) → test k ≡ b → (z : KeyRecord) → known_at E.ends.mid k ≡ Some z → known_at E.ends.loses.mid k ≡ Some z
    by_test true is z e = absurd (let both : None ≡ Some z = sym (E.ends.loses.forgets.known k ∙ ap (λ (b : Bool). cond b None (known_at E.ends.loses.mid k)) is) ∙ e in cc both)
    by_test false is z e = sym (E.ends.loses.forgets.known k ∙ ap (λ (b : Bool). cond b None (known_at E.ends.loses.mid k)) is) ∙ e

    by_mid : (o : Option KeyRecord) → known_at E.ends.mid k ≡ o → (q : KeyRecord) × (known_at w.index k ≡ Some q) × (r.version ≡ q.version) × (r.body ≡ q.body)
    by_mid None was = absurd (let both : Some (last_change r) ≡ None = sym (ap (option_map last_change) now) ∙ heard.changes k ∙ ap (option_map last_change) was in cc both)
    by_mid (Some z) was =
        let same = changed (known_at E.ends.mid k) (known_at x.index k) (heard.changes k) z r was now in
        let old = by_old (known_at w.index k) refl z (sym (E.ends.loses.lacks.known k) ∙ by_test (test k) refl z was) in
        (old.0, old.1, same.0 ∙ old.2, same.1 ∙ old.3)

  spelled_now : IsSpelledIndex x.index
  spelled_now k r now =
      let q = known_from k r now in
      subst (λ (b : Body). HasSpelling (record { key = k; version = r.version; body = b })) (sym q.3) (subst (λ (n : ℕ). HasSpelling (record { key = k; version = n; body = q.0.body })) (sym q.2) (H.spelled k q.0 q.1))

  -- staged blocks are the same
  abbrev body_in : places.Place → Body
  body_in Free = bodies.Tombstone
  body_in (Staged n e value) = e.body
  body_in (Posted n k lines) = bodies.Tombstone

  abbrev number_in : places.Place → ℕ
  number_in Free = 0
  number_in (Staged n e value) = n
  number_in (Posted n k lines) = 0

  abbrev value_in : places.Place → List ℕ
  value_in Free = []
  value_in (Staged n e value) = value
  value_in (Posted n k lines) = []

  staged_was : (y : places.Place) (number : ℕ) (e : Entry) (value : List ℕ) → restarted_by test y ≡ Staged number e value → (old : Entry) × (y ≡ Staged number old value) × (old.body ≡ e.body)
  staged_was Free number e value is = absurd (cc is)
  staged_was (Posted n k lines) number e value is = absurd (cc is)
  staged_was (Staged n old val) number e value is = by (test old.key) is where
    by : (b : Bool) → cond b (Staged n (first_of old) val) (Staged n old val) ≡ Staged number e value → (d : Entry) × (Staged n old val ≡ Staged number d value) × (d.body ≡ e.body)
    by true same = (old, (λ i. Staged (ap number_in same i) old (ap value_in same i)), ap body_in same)
    by false same = (old, (λ i. Staged (ap number_in same i) old (ap value_in same i)), ap body_in same)

  block_was : (q : ℕ) (y : IsStagedBlock u x.places.items q) → IsStagedBlock v w.places.items q
  block_was q y =
      let o = staged_was (place_at w.places.items y.slot) y.number y.entry y.value (sym (place_is y.slot) ∙ y.place) in
      record { slot = y.slot; number = y.number; entry = o.0; value = y.value; place = o.1; points = o.2 ∙ y.points }

  block_now : (q : ℕ) (y : IsStagedBlock v w.places.items q) → IsStagedBlock u x.places.items q
  block_now q y = by (test y.entry.key) refl where
    at : place_at x.places.items y.slot ≡ cond (test y.entry.key) (Staged y.number (first_of y.entry) y.value) (Staged y.number y.entry y.value)
    at = place_is y.slot ∙ ap (restarted_by test) y.place

    by : (b : Bool) → test y.entry.key ≡ b → IsStagedBlock u x.places.items q
    by true is = record { slot = y.slot; number = y.number; entry = first_of y.entry; value = y.value; place = at ∙ ap (λ (b : Bool). cond b (Staged y.number (first_of y.entry) y.value) (Staged y.number y.entry y.value)) is; points = y.points }
    by false is = record { slot = y.slot; number = y.number; entry = y.entry; value = y.value; place = at ∙ ap (λ (b : Bool). cond b (Staged y.number (first_of y.entry) y.value) (Staged y.number y.entry y.value)) is; points = y.points }

  block_still : (q n : ℕ) → IsBlockFor w.allocator q n → IsBlockFor x.allocator q n
  block_still q n is = record {
    used = E.ends.gives.used q ∙ is.used;
    class = is.class;
    class_is = class_same w.allocator x.allocator (record { layout_is = E.ends.gives.layout_is; part_is = E.ends.gives.part_is }) E.ends.gives.classes q ∙ is.class_is;
    fits = is.fits;
  }

  -- each chunk is free, Data there, or the log's
  chunk_now : (j : ℕ) → HasChunk w.allocator w.log.chunks j → HasChunk x.allocator x.log.chunks j
  chunk_now j had = ⊎_elim
      (λ (here : j ≡ c.chunk). inl (inl (E.ends.gives.free j ∙ ap (λ (b : Bool). b || chunk_is_free w.allocator j) (eq-eqb j c.chunk here)), ap (tail_of x.log.chunks) here ∙ E.ends.gone))
      (λ (ne : j ≢ c.chunk).
      let free_is = E.ends.gives.free j ∙ ap (λ (b : Bool). b || chunk_is_free w.allocator j) (ne_eqb j c.chunk ne) in
      let tail_same = tail_is ∙ without_other w.log.chunks c.chunk j ne in
      ⊎_elim
      (λ own. inl (⊎_elim (λ free. inl (free_is ∙ free)) (λ cut. inr (ap is_some (E.ends.gives.classes j) ∙ cut)) own.0, tail_same ∙ own.1))
      (λ has. inr ((free_is ∙ has.0.0, E.ends.gives.classes j ∙ has.0.1), ap is_some tail_same ∙ has.1))
      had)
      (cases_eq j c.chunk)
    where
      tail_is : tail_of x.log.chunks j ≡ tail_of (without w.log.chunks c.chunk) j
      tail_is = ap (λ (l : LogState). tail_of l.chunks j) E.ends.log_is

  pub ended_holds : Holds p m u x
  unfolding block_was
  ended_holds = record {
    place = H.place;
    member = H.member;
    core = ap (λ (y : Worker). y.core) E.same ∙ H.core;
    layout = ap (λ (y : Worker). y.layout) E.same ∙ H.layout;
    log_layout = ap (λ (l : LogState). l.layout) E.ends.log_is ∙ H.log_layout;
    log_part = ap (λ (l : LogState). l.part) E.ends.log_is ∙ H.log_part;
    sets = E.ends.sets;
    allocator_layout = E.ends.gives.layout_is ∙ H.allocator_layout;
    allocator_part = E.ends.gives.part_is ∙ H.allocator_part;
    spelled = spelled_now;
    eight = E.ends.loses.forgets.count ∙ H.eight;
    placed = λ s low. placed_after p m w.own_gone.items (mailing all v) (after_retire p m c.doomed (mailing all v)) (mailing all u) w.places.items x.places.items w.index x.index before goes spares s (H.placed s low);
    apart = λ s t k a b. H.apart s t k (sym (keys_same s) ∙ a) (sym (keys_same t) ∙ b);
    pending = λ k q has. ⊎_elim
        (λ y. inl (y.0, y.1, y.2, y.3, place_is y.0 ∙ ap (restarted_by test) y.4))
        (λ y. inr (y.0, busy_is k ∙ y.1, stopped_is ∙ y.2))
        (H.pending k q (sym (pending_is k) ∙ has));
    admitted = λ k busy. (let had = H.admitted k (sym (busy_is k) ∙ busy) in let room = room_is k in let waits = ap (λ (y : Worker). length (waiting y.queue k)) E.same in omega (arith, had, room, waits));
    keys = λ k own which. subst (λ (ns : List EntryName). KnowsKey p (mailing ns u) k (known_at x.index k)) (sym (waiting_is p m c.doomed w.notices.items x.notices.items E.files)) (after.keys k own);
    mail = subst (λ (b : Bool). KeepsMail p m u b x.notices.items) (sym (ap (λ (y : Worker). y.winds_down) E.same)) (mail_filed p m c.doomed w.notices.items x.notices.items E.files H.place u w.winds_down (mail_still p m v u w.winds_down w.notices.items still_now H.mail) leaves_now);
    blocks = record {
      held = λ q b has. block_still q (length b.bytes) (H.blocks.held q b (sym (ap (λ (f : ℕ → _). f q) blocks_is) ∙ has));
      staged = λ q y. let s = H.blocks.staged q (block_was q y) in (block_still q (length y.value) s.0, ap (λ (f : ℕ → _). f q) blocks_is ∙ s.1);
      once = λ q y z. H.blocks.once q (block_was q y) (block_was q z);
      only = λ q used. ⊎_elim (λ b. inl (b.0, ap (λ (f : ℕ → _). f q) blocks_is ∙ b.1)) (λ y. inr (block_now q y)) (H.blocks.only q (sym (E.ends.gives.used q) ∙ used));
    };
    waits = λ on k idle. ap (λ (y : Worker). waiting y.queue k) E.same ∙ H.waits (sym (ap (λ (y : Worker). y.winds_down) E.same) ∙ on) k (sym (busy_is k) ∙ idle);
    leads = record { seat = H.leads.seat; place = H.leads.place; number = H.leads.number; at = subst (LeadsAt H.leads.seat u) (sym (leading_is ∙ E.idle.1)) leads_now };
    space = λ r. subst (HasSpaceFor x) (sym (leading_is ∙ E.idle.1)) tt;
    broken = λ b. stopped_is ∙ H.broken (sym (ap (λ (y : View). y.broken) view_is) ∙ b);
    lost = λ l. stopped_is ∙ H.lost (sym (ap is_lost leading_is) ∙ l);
    flight = unlost_keeps u.flying u.broken x.leading x.lost_batch x.stopped (ap (λ (y : Worker). y.lost_batch) E.same ∙ unlost) (ap (λ (y : View). y.flying) view_is ∙ H.flight.led unlost ∙ ap in_flight (sym leading_is));
    cleaning = inl (none_way x (ap (λ (y : Worker). y.cleaning) E.same));
    remembers = λ r k own none. after.remembers k own none;
    chunks = λ r j low. chunk_now j (H.chunks E.runs j low);
  } where
    stopped_is : x.stopped ≡ w.stopped
    stopped_is = ap (λ (y : Worker). y.stopped) E.same

    unlost : w.lost_batch ≡ false
    unlost = runs_unlost v.flying v.broken w.leading w.lost_batch w.stopped H.flight E.runs

    leading_is : x.leading ≡ w.leading
    leading_is = ap (λ (y : Worker). y.leading) E.same

    leaves_now : (k i : ℕ) → owner p k ≢ m → has c.doomed k i ≡ true → u.leaving k i ≡ true
    leaves_now k i ne is = ap (λ (y : View). y.leaving k i) view_is ∙ (λ j. cond (not (ne_eqb (owner p k) m ne j) && is j) true (v.leaving k i))

    leads_now : LeadsAt H.leads.seat u (leads.Nothing E.idle.0)
    leads_now = (let had : LeadsAt H.leads.seat v (leads.Nothing E.idle.0) = subst (LeadsAt H.leads.seat v) E.idle.1 H.leads.at in (ap (λ (y : View). y.holds) view_is ∙ had.0, (λ a s. ap (λ (y : View). y.taken a s) view_is ∙ had.1 a s), (λ whole. ap (λ (y : View). y.flying) view_is ∙ had.2 (sym (ap (λ (y : View). y.broken) view_is) ∙ whole))))
