-- What a core keeps where it takes in what another member told it.
use Rattle.std.proofs.Common.{◌≡◌, ◌⊎◌, inl, inr, ⊎_elim, ℕ, ◌&&◌, eqb, Bool, true, false, cond, List, [], Option, Some, None, option_map, refl, sym, ◌∙◌, ap, subst, arith}
use Rattle.std.specs.Prelude.{Vec}
use Rattle.std.specs.Global.{Global}
use Rattle.std.proofs.lemmas.Bool.{and_parts}
use Rattle.log_entry.specs.declared.entry.Entry.{Entry}
use Rattle.log_entry.specs.declared.entry.Body.{Body}
use Rattle.log_entry.specs.declared.entry.Body.TheVariants as bodies
use Rattle.log_entry.specs.declared.entry.EntryName.{EntryName}
use Rattle.log_entry.specs.Spelling.{HasSpelling}
use Rattle.core_index.specs.Index.{known_at, room_at}
use Rattle.core_index.specs.Records.{KeyRecord}
use Rattle.core_index.specs.Slots as slots
use Rattle.recover.specs.Starts.{IsSpelledIndex}
use Rattle.log_standing.specs.NameCounts.{StandingState}
use Rattle.group_laws.specs.Places.{Place, core_of, owner}
use Rattle.group_laws.specs.State.{Notices}
use Rattle.group_laws.specs.Updates.{has}
use Rattle.group_laws.specs.MemberViews.{View}
use Rattle.group_board.specs.Assurances.{IsHeard}
use Rattle.group_board.specs.Views.{after_receive, IsTidyIn, TidiedIn}
use Rattle.core_worker.specs.declared.types.Place as places
use Rattle.core_worker.specs.declared.types.Place.TheVariants.{Free, Staged, Posted}
use Rattle.core_worker.specs.declared.worker.Worker.{Worker}
use Rattle.core_worker.specs.OwnPlaces.{place_at, key_in, is_busy, own}
use Rattle.core_worker.specs.KeyTies.{IsStagedBlock, AreBlocks}
use Rattle.core_worker.specs.KeepsCleaning.{KeepsCleaning}
use Rattle.core_worker.specs.Ties.{Holds, LeadsAt, LeadsNothing, HasSpaceFor}
use Rattle.core_worker.specs.Order.{InOrder}
use Rattle.core_worker.specs.Outbox.{mailing, waiting_dead}
use Rattle.core_worker.specs.GoneNames.{restarted_by, is_forgotten, first_of, lacking, KnowsAll, LosesNames, LetsNamesGo, SparesPosted}
use Rattle.core_worker.specs.Hearing.{last_change, HearsAll}
use Rattle.core_worker.specs.LogNames.{HearsNotices}
use Rattle.core_worker.proofs.CleaningKept.{keeps_counts, keeps_seen}
use Rattle.core_worker.proofs.EndedKeys.{knows_all, key_restarted}
use Rattle.core_worker.proofs.HeardDead.{killed_count}
use Rattle.core_worker.proofs.MailKept.{told_by, mail_tidy, mail_still, none_waits, StillTells, still_then, still_tidied}
use Rattle.core_worker.proofs.GoneKeys.{placed_after, own_after}
use Rattle.core_worker.proofs.RetiredKeys.{receives_keys, receives_go}
use Rattle.core_worker.proofs.Posts.{busy_same}

pub told_swap : (a b t : Bool) → (a ≡ true → b ≡ false) → cond a false (cond b true t) ≡ cond b true (cond a false t)
told_swap true b t e = sym (ap (λ (c : Bool). cond c true false) (e refl))
told_swap false b t e = refl

pub told_still : (b t : Bool) → t ≡ true → cond b true t ≡ true
told_still true t e = refl
told_still false t e = e

abbrev WasStaged : places.Place → ℕ → List ℕ → Body → Type 0
WasStaged x number value body = (e : Entry) × (x ≡ Staged number e value) × (e.body ≡ body)

body_in : places.Place → Body
body_in Free = bodies.Tombstone
body_in (Staged n e u) = e.body
body_in (Posted n k l) = bodies.Tombstone

number_in : places.Place → ℕ
number_in Free = 0
number_in (Staged n e u) = n
number_in (Posted n k l) = 0

value_in : places.Place → List ℕ
value_in Free = []
value_in (Staged n e u) = u
value_in (Posted n k l) = []

staged_was : (f : ℕ → Bool) (x : places.Place) (number : ℕ) (e : Entry) (value : List ℕ) → restarted_by f x ≡ Staged number e value → WasStaged x number value e.body
unfolding body_in number_in value_in
staged_was f Free number e value is = absurd (cc is)
staged_was f (Staged n d u) number e value is = by (f d.key) is where
  by : (b : Bool) → cond b (Staged n (first_of d) u) (Staged n d u) ≡ Staged number e value → WasStaged (Staged n d u) number value e.body
  by true is = (d, (λ i. Staged (ap number_in is i) d (ap value_in is i)), ap body_in is)
  by false is = (d, (λ i. Staged (ap number_in is i) d (ap value_in is i)), ap body_in is)
staged_was f (Posted n k l) number e value is = absurd (cc is)

-- what the last change of a key left stays, where the key isn't forgotten
change_lacking : (ns : List EntryName) (k : ℕ) (o : Option KeyRecord) → option_map last_change (option_map (lacking ns k) o) ≡ option_map last_change o
change_lacking ns k None = refl
change_lacking ns k (Some r) = refl

pub change_lost : (home : ℕ) (ns : List EntryName) (ps qs : List places.Place) (es mid ix : List (ℕ × slots.Place)) → LosesNames ns ps qs es mid → HearsAll home mid ix → (k : ℕ) → (known_at ix k ≡ None) ⊎ (option_map last_change (known_at ix k) ≡ option_map last_change (known_at es k))
change_lost home ns ps qs es mid ix L A k = by (is_forgotten ns ps L.mid k) (L.forgets.known k) where
  gone : (o : Option KeyRecord) → option_map last_change o ≡ None → o ≡ None
  gone None e = refl
  gone (Some r) e = absurd (cc e)

  by : (b : Bool) → known_at mid k ≡ cond b None (known_at L.mid k) → (known_at ix k ≡ None) ⊎ (option_map last_change (known_at ix k) ≡ option_map last_change (known_at es k))
  by true e = inl (gone (known_at ix k) (A.changes k ∙ ap (option_map last_change) e))
  by false e = inr (A.changes k ∙ ap (option_map last_change) (e ∙ L.lacks.known k) ∙ change_lacking ns k (known_at es k))

spelled_lost : (es ix : List (ℕ × slots.Place)) → IsSpelledIndex es → ((k : ℕ) → (known_at ix k ≡ None) ⊎ (option_map last_change (known_at ix k) ≡ option_map last_change (known_at es k))) → IsSpelledIndex ix
spelled_lost es ix S change k r is = ⊎_elim
    (λ none. absurd (let both : None ≡ Some r = sym none ∙ is in cc both))
    (λ same. by (known_at es k) refl (sym (ap (option_map last_change) is) ∙ same))
    (change k)
  where
    by : (o : Option KeyRecord) → known_at es k ≡ o → Some (last_change r) ≡ option_map last_change (known_at es k) → HasSpelling (record { key = k; version = r.version; body = r.body })
    by None at e = absurd (let both : Some (last_change r) ≡ None = e ∙ ap (option_map last_change) at in cc both)
    by (Some y) at e =
        let both : (r.version, r.body) ≡ (y.version, y.body) = (let q : Some (last_change r) ≡ Some (last_change y) = e ∙ ap (option_map last_change) at in cc q) in
        subst (λ (c : ℕ × Body). HasSpelling (record { key = k; version = c.0; body = c.1 })) (sym both) (S k y at)

-- words can spell the records still, where no last change is another
pub spelled_same : (es ix : List (ℕ × slots.Place)) → IsSpelledIndex es → ((k : ℕ) → option_map last_change (known_at ix k) ≡ option_map last_change (known_at es k)) → IsSpelledIndex ix
spelled_same es ix S same = spelled_lost es ix S (λ k. inr (same k))

module _ (p : Place) (m from : ℕ) (v : View) (w : Worker) (H : Holds p m v w) (O : InOrder p m v w) (runs : w.stopped ≡ false) (nothing : LeadsNothing w) (n : Notices) (A : IsHeard p m from v n)
    (ps : Vec places.Place Global) (ix : List (ℕ × slots.Place)) (st : StandingState) (X : HearsNotices (core_of p m) n w.places.items ps.items w.index ix w.standing st)
    (last : ℕ → ℕ) (told dead : ℕ → ℕ → Bool) (T : IsTidyIn p m (after_receive p m n v) last told dead) where
  abbrev pub all : List EntryName
  all = waiting_dead w.notices.items

  abbrev pub left : View
  left = after_receive p m n v

  abbrev pub view : View
  view = record left { last = last; told = told; dead = dead }

  abbrev pub heard : Worker
  heard = record w { index = ix; standing = st; places = ps }

  none_told : (k i : ℕ) → has n.gone k i ≡ true → has all k i ≡ false
  none_told k i t = none_waits p m v w.winds_down w.notices.items H.mail k i (λ y. (let yes = A.told k i t in let off = y.untold in let both : true ≡ false = sym yes ∙ off in cc both))

  -- what waits is told, and then what is gone is taken out: or the other way round
  pub view_path : after_receive p m n (mailing all v) ≡ mailing all left
  view_path = λ i. record left { told = λ k j. told_swap (eqb (owner p k) m && has n.gone k j) (has all k j) (v.told k j) (λ t. none_told k j (and_parts (eqb (owner p k) m) (has n.gone k j) t).1) i }

  pub tidied_all : TidiedIn p m (after_receive p m n (mailing all v)) (mailing all view)
  tidied_all = (last, told_by all told, dead, subst (λ (y : View). IsTidyIn p m y last (told_by all told) dead) (sym view_path) (mail_tidy p m left all last told dead T), refl)

  pub heard_all : IsHeard p m from (mailing all v) n
  heard_all = record {
    other = A.other;
    dead = A.dead;
    theirs = A.theirs;
    own = A.own;
    told = λ k i t. told_still (has all k i) (v.told k i) (A.told k i t);
    stood = A.stood;
  }

  pub knew_all : KnowsAll p m (mailing all v) w.places.items w.index
  knew_all = knows_all p m v w H O runs

  pub knows_now : KnowsAll p m (mailing all view) ps.items ix
  knows_now = receives_keys p m from n (mailing all v) (mailing all view) w.places.items ps.items w.index X.mid ix knew_all heard_all tidied_all X.loses X.heard

  abbrev pub go : LetsNamesGo p m n.gone (mailing all v) (after_receive p m n (mailing all v)) (mailing all view) w.places.items ps.items w.index ix
  go = receives_go p m from n (mailing all v) (mailing all view) w.places.items ps.items w.index X.mid ix heard_all tidied_all X.loses X.heard

  abbrev pub test : ℕ → Bool
  test = is_forgotten n.gone w.places.items X.loses.mid

  pub place_is : (s : ℕ) → place_at ps.items s ≡ restarted_by test (place_at w.places.items s)
  place_is = X.loses.forgets.places

  pub key_same : (s : ℕ) → key_in (place_at ps.items s) ≡ key_in (place_at w.places.items s)
  key_same s = ap key_in (place_is s) ∙ key_restarted test (place_at w.places.items s)

  pub busy_is : (k : ℕ) → is_busy ps.items k ≡ is_busy w.places.items k
  busy_is k = busy_same w.places.items ps.items key_same k

  pub own_is : own ps.items ≡ own w.places.items
  own_is = own_after p m n.gone (mailing all v) (after_receive p m n (mailing all v)) (mailing all view) w.places.items ps.items w.index ix knew_all go

  pub room_is : (k : ℕ) → room_at ix k ≡ room_at w.index k
  room_is k = X.heard.room k ∙ X.loses.forgets.room k ∙ X.loses.lacks.room k

  pub change_is : (k : ℕ) → (known_at ix k ≡ None) ⊎ (option_map last_change (known_at ix k) ≡ option_map last_change (known_at w.index k))
  change_is = change_lost (core_of p m) n.gone w.places.items ps.items w.index X.mid ix X.loses X.heard

  -- what waits to be sent isn't gone, and dies on
  still_heard : StillTells p m v left
  still_heard = record {
    stands = λ k i to mine other here not_told dies.
        let kept : (eqb (owner p k) m && has n.gone k i) ≡ false = off k i not_told in (
          ap (λ (b : Bool). cond b None (v.present k i)) kept ∙ here,
          ap (λ (b : Bool). cond b false (v.told k i)) kept ∙ not_told,
          ⊎_elim (λ lt. inl lt) (λ x. inr (x.0, x.1, λ j h is. x.2 j h (was k j h (eqb (owner p k) m && has n.gone k j) is))) dies,
        );
    leaves = λ k i is. is;
  } where
    was : (k j h : ℕ) (b : Bool) → cond b None (v.present k j) ≡ Some h → v.present k j ≡ Some h
    was k j h true e = absurd (cc e)
    was k j h false e = e

    off : (k i : ℕ) → v.told k i ≡ false → (eqb (owner p k) m && has n.gone k i) ≡ false
    off k i not_told = by (eqb (owner p k) m && has n.gone k i) refl where
      by : (b : Bool) → (eqb (owner p k) m && has n.gone k i) ≡ b → b ≡ false
      by false e = refl
      by true e = absurd (let yes = A.told k i (and_parts (eqb (owner p k) m) (has n.gone k i) e).1 in let both : true ≡ false = sym yes ∙ not_told in cc both)

  spares : SparesPosted p m (mailing all v) (mailing all view)
  spares k s e own pends kept = kept

  was_staged : (q : ℕ) (y : IsStagedBlock view ps.items q) → IsStagedBlock v w.places.items q
  was_staged q y =
      let d = staged_was test (place_at w.places.items y.slot) y.number y.entry y.value (sym (place_is y.slot) ∙ y.place) in
      record { slot = y.slot; number = y.number; entry = d.0; value = y.value; place = d.1; points = d.2 ∙ y.points }

  now_staged : (q : ℕ) (y : IsStagedBlock v w.places.items q) → IsStagedBlock view ps.items q
  now_staged q y = by (test y.entry.key) refl where
    at : place_at ps.items y.slot ≡ cond (test y.entry.key) (Staged y.number (first_of y.entry) y.value) (Staged y.number y.entry y.value)
    at = place_is y.slot ∙ ap (restarted_by test) y.place

    by : (b : Bool) → test y.entry.key ≡ b → IsStagedBlock view ps.items q
    by true e = record { slot = y.slot; number = y.number; entry = first_of y.entry; value = y.value; place = at ∙ ap (λ (b : Bool). cond b (Staged y.number (first_of y.entry) y.value) (Staged y.number y.entry y.value)) e; points = y.points }
    by false e = record { slot = y.slot; number = y.number; entry = y.entry; value = y.value; place = at ∙ ap (λ (b : Bool). cond b (Staged y.number (first_of y.entry) y.value) (Staged y.number y.entry y.value)) e; points = y.points }

  pub blocks_now : AreBlocks view w.allocator ps.items
  unfolding was_staged
  blocks_now = record {
    held = H.blocks.held;
    staged = λ q y. H.blocks.staged q (was_staged q y);
    once = λ q y z. H.blocks.once q (was_staged q y) (was_staged q z);
    only = λ q used. ⊎_elim (λ b. inl b) (λ y. inr (now_staged q y)) (H.blocks.only q used);
  }

  -- what was dead still is, and no name has another number of copies
  still_dead : (b d : Bool) → d ≡ true → cond b true d ≡ true
  still_dead true d is = refl
  still_dead false d is = is

  keeps_clean : KeepsCleaning p m view heard
  keeps_clean = keeps_counts p m view w st
      (λ k i. X.tells.counts k i ∙ killed_count n.dead w.standing X.killed X.kills k i)
      (keeps_seen p m v view w (λ k i marked. marked)
      (λ k i dies. (T.learns k i).1 (inl (still_dead (has n.dead k i) (v.dead k i) dies))) H.cleaning)

  pub heard_holds : Holds p m view heard
  heard_holds = record {
    place = H.place;
    member = H.member;
    core = H.core;
    layout = H.layout;
    log_layout = H.log_layout;
    log_part = H.log_part;
    sets = H.sets;
    allocator_layout = H.allocator_layout;
    allocator_part = H.allocator_part;
    spelled = spelled_lost w.index ix H.spelled change_is;
    eight = X.loses.forgets.count ∙ H.eight;
    placed = λ s lt. placed_after p m n.gone (mailing all v) (after_receive p m n (mailing all v)) (mailing all view) w.places.items ps.items w.index ix knew_all go spares s (H.placed s lt);
    apart = λ s t k a b. H.apart s t k (sym (key_same s) ∙ a) (sym (key_same t) ∙ b);
    pending = λ k q has. ⊎_elim
        (λ y. inl (y.0, y.1, y.2, y.3, place_is y.0 ∙ ap (restarted_by test) y.4))
        (λ y. inr (y.0, busy_is k ∙ y.1, y.2))
        (H.pending k q has);
    admitted = λ k busy. let few = H.admitted k (sym (busy_is k) ∙ busy) in let room = room_is k in omega (arith, few, room);
    keys = λ k own which. knows_now.keys k own;
    mail = mail_still p m v view w.winds_down w.notices.items (still_then p m v left view still_heard (still_tidied p m left last told dead T)) H.mail;
    blocks = blocks_now;
    waits = λ on k idle. H.waits on k (sym (busy_is k) ∙ idle);
    leads = record { seat = H.leads.seat; place = H.leads.place; number = H.leads.number; at = subst (LeadsAt H.leads.seat view) (sym nothing.1) (let had = subst (LeadsAt H.leads.seat v) nothing.1 H.leads.at in (had.0, had.1, had.2)) };
    space = λ r. subst (HasSpaceFor heard) (sym nothing.1) tt;
    broken = H.broken;
    lost = H.lost;
    flight = H.flight;
    cleaning = keeps_clean;
    remembers = λ r k own none. knows_now.remembers k own none;
    chunks = H.chunks;
  }
