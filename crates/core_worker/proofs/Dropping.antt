-- A staged change of a stopped core is taken out of its place.
use Rattle.std.proofs.Common.{◌≡◌, ◌⊎◌, ℕ, ◌+◌, ◌<◌, true, false, List, Option, Some, None, refl, sym, ◌∙◌, ap, subst, arith, inl}
use Rattle.std.specs.Prelude.{IfSome}
use Rattle.log_entry.specs.declared.entry.Entry.{Entry}
use Rattle.log_entry.specs.declared.entry.Body.{Body}
use Rattle.log_entry.specs.declared.entry.Body.TheVariants as bodies
use Rattle.core_index.specs.Index.{known_at}
use Rattle.core_index.specs.Records.{block_of, pointer_of}
use Rattle.lazy_alloc.specs.Sets.{Sets, AreSets, block_is_used}
use Rattle.group_laws.specs.declared.types.Block.{Block}
use Rattle.group_laws.specs.Places as groups
use Rattle.group_laws.specs.MemberViews.{View}
use Rattle.core_worker.specs.declared.types.Place.{Place}
use Rattle.core_worker.specs.declared.types.Place.TheVariants.{Free, Staged, Posted}
use Rattle.core_worker.specs.declared.worker.Worker.{Worker}
use Rattle.core_worker.specs.OwnPlaces.{place_at, key_in, is_free, is_staged, Replaces}
use Rattle.core_worker.specs.KeyTies.{IsPlaced, IsStagedBlock}
use Rattle.core_worker.specs.Refusals.{HasAnswerRoom}
use Rattle.core_worker.specs.Ties.{Holds}
use Rattle.core_worker.specs.Order.{InOrder, PointsAt}
use Rattle.core_worker.specs.Finishing.{PutsBackIf, IsFreed}
use Rattle.core_worker.specs.Stopping.{staged_block, PutsAway}
use Rattle.core_worker.specs.Supplies.{under_way}
use Rattle.core_worker.proofs.UnderWay.{pledges_itself}
use Rattle.core_worker.proofs.CleaningKept.{stopped_none}
use Rattle.core_worker.proofs.Posts.{busy_by}
use Rattle.core_worker.proofs.PuttingBack.{put_chunks, put_count, put_less, put_gone, put_kept}
use Rattle.core_worker.proofs.Freeing.{Frees}
use Rattle.core_worker.proofs.FreedOrder.{FreesInOrder, room_let_go}
use Rattle.core_worker.proofs.TakingBack.{is_freed}

pub pointed : (b : Body) (q : ℕ) → pointer_of b ≡ Some q → b ≡ bodies.Pointer q
pointed (bodies.Pointer x) q e = (let same : x ≡ q = cc e in ap bodies.Pointer same)
pointed (bodies.Embedded y) q e = absurd (cc e)
pointed bodies.Tombstone q e = absurd (cc e)

pub pointer_is : (b : Body) (q : ℕ) → b ≡ bodies.Pointer q → pointer_of b ≡ Some q
pointer_is b q e = ap pointer_of e

pub record StagedAt (w : Worker) (slot : ℕ) : Type 0 where
  pub number : ℕ
  pub entry : Entry
  pub value : List ℕ
  pub place : place_at w.places.items slot ≡ Staged number entry value

pub staged_at : (w : Worker) (slot : ℕ) → is_staged (place_at w.places.items slot) ≡ true → StagedAt w slot
staged_at w slot is = by (place_at w.places.items slot) refl is where
  by : (x : Place) → place_at w.places.items slot ≡ x → is_staged x ≡ true → StagedAt w slot
  by Free e is = absurd (cc is)
  by (Staged n d u) e is = record { number = n; entry = d; value = u; place = e }
  by (Posted n k l) e is = absurd (cc is)

module _ (p : groups.Place) (m : ℕ) (v : View) (w : Worker) (H : Holds p m v w) (O : InOrder p m v w) (stopped : w.stopped ≡ true) (slot : ℕ) (lt : slot < 8) (number : ℕ) (e : Entry) (value : List ℕ) (was : place_at w.places.items slot ≡ Staged number e value) where
  abbrev Facts : Type 0
  Facts = IsPlaced p m v slot (Staged number e value)

  facts : Facts
  facts = subst (IsPlaced p m v slot) was (H.placed slot lt)

  here : (q : ℕ) → pointer_of e.body ≡ Some q → IsStagedBlock v w.places.items q
  here q is = record { slot = slot; number = number; entry = e; value = value; place = was; points = pointed e.body q is }

  pub staged_used : IfSome (pointer_of e.body) (λ q. block_is_used w.allocator q ≡ true)
  staged_used = by (pointer_of e.body) refl where
    by : (o : Option ℕ) → pointer_of e.body ≡ o → IfSome o (λ q. block_is_used w.allocator q ≡ true)
    by None is = tt
    by (Some q) is = (H.blocks.staged q (here q is)).0.used

  module _ (al : Sets) (sets : AreSets al) (P : PutsBackIf w.allocator al (pointer_of e.body)) (x : Worker) (rest : x ≡ record w { allocator = al; places = x.places; answers = x.answers }) (R : Replaces w.places.items x.places.items slot Free) (room : (n : ℕ) → HasAnswerRoom (n + 1) w → HasAnswerRoom n x) where
    abbrev dropped : Worker
    dropped = record w { allocator = al; places = x.places; answers = x.answers }

    none_held : (q : ℕ) (b : Block) → v.blocks q ≡ Some b → pointer_of e.body ≡ Some q → ⊥
    none_held q b has is = (let none = (H.blocks.staged q (here q is)).1 in let both : None ≡ Some b = sym none ∙ has in cc both)

    entry_at : Place → Body
    entry_at Free = bodies.Tombstone
    entry_at (Staged n d u) = d.body
    entry_at (Posted n k l) = bodies.Tombstone

    drops : Frees p m e.key slot v v w dropped
    unfolding entry_at here
    drops = record {
      places = R;
      layout = refl;
      core = refl;
      log = refl;
      cleaning = inl (pledges_itself (under_way w) (under_way w) refl);
      cleans = λ had. inl (stopped_none w stopped);
      runs = λ r. r;
      spelled = H.spelled;
      room = λ k ne. omega arith;
      knows = λ k own ne which. H.keys k own which;
      knows_here = λ own r. absurd (let both : true ≡ false = sym stopped ∙ r in cc both);
      mail = H.mail;
      remembers = λ r. absurd (let both : true ≡ false = sym stopped ∙ r in cc both);
      last = λ k own ne busy. refl;
      cell = λ k ne. refl;
      pending = λ k ne. refl;
      gone = λ q has. absurd (let none = facts.2 in let both : None ≡ Some q = sym none ∙ has in cc both);
      sets = sets;
      chunks = put_chunks w.allocator al (pointer_of e.body) P;
      less = put_less w.allocator al (pointer_of e.body) P;
      blocks = λ q b has. has;
      others = λ q b has ne. has;
      held = λ q b has. put_kept w.allocator al (pointer_of e.body) P q (H.blocks.held q b has).used (none_held q b has);
      staged = λ q s ne. put_kept w.allocator al (pointer_of e.body) P q (H.blocks.staged q s).0.used (λ is. ne (H.blocks.once q s (here q is)));
      only = λ q b has used. has;
      only_staged = λ q s at used. put_gone w.allocator al (pointer_of e.body) P q (pointer_is e.body q (ap entry_at (sym was ∙ ap (place_at w.places.items) (sym at) ∙ s.place) ∙ s.points)) used;
      allows = record { kept = refl; flying = refl; doomed = λ k n d. d; blocks = λ q b has. has };
      leads = H.leads;
      space = λ r. absurd (let both : true ≡ false = sym stopped ∙ r in cc both);
      broken = H.broken;
      lost = H.lost;
      flight = H.flight;
      unlost = λ off. off;
      names = λ s r. absurd (let both : true ≡ false = sym stopped ∙ r in cc both);
    }

    drops_order : FreesInOrder p m e.key v v w dropped
    drops_order = record {
      block = λ k ne. refl;
      forgets = λ k ne. refl;
      last = λ k q ne has. refl;
      heard = O.heard;
      told = O.told;
      versions = O.versions;
      mine = O.mine;
      single = λ q b has same. subst (λ (k : ℕ). (block_of (known_at w.index k) ≡ Some q) ⊎ PointsAt (v.pending k) q) same (O.single q b has);
      distinct = λ q points is. O.distinct e.key q points is;
      next = λ q has. absurd (let none = facts.2 in let both : None ≡ Some q = sym none ∙ has in cc both);
      answers = room_let_go w dropped slot e.key (ap key_in was) (let eight = H.eight in omega (arith, eight, lt)) R refl refl (subst (λ (z : Worker). (n : ℕ) → HasAnswerRoom (n + 1) w → HasAnswerRoom n z) rest room) O.answers;
      hand = O.hand;
      stops = O.stops;
      agrees = O.agrees;
      log = O.log;
      names = O.names;
    }

    pub dropped_freed : IsFreed p m v v w x e.key
    dropped_freed =
        let few = H.admitted e.key (busy_by w.places.items e.key slot (ap key_in was)) in
        subst (λ (z : Worker). IsFreed p m v v w z e.key) (sym rest) (is_freed p m e.key slot v v w dropped H O lt (ap key_in was) facts.1 drops drops_order refl refl (omega (arith, few)) (put_count w.allocator al (pointer_of e.body) P) (λ r. absurd (let both : true ≡ false = sym stopped ∙ r in cc both)))

-- what was put away is out of its place, wherever the worker is tied
pub drops_by_sight : (w x : Worker) (slot key : ℕ) → w.stopped ≡ true → slot < 8 → is_staged (place_at w.places.items slot) ≡ true → key_in (place_at w.places.items slot) ≡ Some key → PutsAway w x slot (staged_block (place_at w.places.items slot)) → (p : groups.Place) (m : ℕ) (v : View) → Holds p m v w → InOrder p m v w → IsFreed p m v v w x key
drops_by_sight w x slot key stopped lt staged is P p m v H O =
    let s = staged_at w slot staged in
    let same : s.entry.key ≡ key = (let both : Some s.entry.key ≡ Some key = sym (ap key_in s.place) ∙ is in cc both) in
    let puts : PutsBackIf w.allocator P.mid (pointer_of s.entry.body) = subst (λ (o : Option ℕ). PutsBackIf w.allocator P.mid o) (ap staged_block s.place) P.puts in
    subst (λ (k : ℕ). IsFreed p m v v w x k) same (dropped_freed p m v w H O stopped slot lt s.number s.entry s.value s.place P.mid P.sets puts x P.lets.rest P.lets.places P.lets.room)

pub drop_used : (w : Worker) (slot : ℕ) → slot < 8 → is_staged (place_at w.places.items slot) ≡ true → (p : groups.Place) (m : ℕ) (v : View) → Holds p m v w → InOrder p m v w → w.stopped ≡ true → IfSome (staged_block (place_at w.places.items slot)) (λ q. block_is_used w.allocator q ≡ true)
drop_used w slot lt staged p m v H O stopped =
    let s = staged_at w slot staged in
    subst (λ (o : Option ℕ). IfSome o (λ q. block_is_used w.allocator q ≡ true)) (sym (ap staged_block s.place)) (staged_used p m v w H O stopped slot lt s.number s.entry s.value s.place)

pub staged_taken : (x : Place) → is_staged x ≡ true → is_free x ≡ false
staged_taken Free e = absurd (cc e)
staged_taken (Staged n d u) e = refl
staged_taken (Posted n k l) e = absurd (cc e)
