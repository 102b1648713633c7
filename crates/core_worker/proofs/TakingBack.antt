-- A change that its leader gave back is taken out of its place.
use Rattle.std.proofs.Common.{◌≡◌, ◌≢◌, ⊎_elim, ℕ, zero, suc, ◌+◌, ◌<◌, ◌≤◌, ◌==◌, Bool, true, false, List, [], ◌∷◌, length, Option, Some, None, refl, sym, ◌∙◌, ap, subst, arith}
use Rattle.std.specs.Prelude.{Vec, IfSome, MatchOption}
use Rattle.std.specs.Global.{Global}
use Rattle.fs_model.specs.declared.model.Reply.{Reply}
use Rattle.fs_model.specs.declared.model.Reply.TheVariants as replies
use Rattle.fs_model.specs.Cells.{key_of}
use Rattle.log_entry.specs.declared.entry.Entry.{Entry}
use Rattle.conflict_queue.specs.declared.types.Held.{Held}
use Rattle.conflict_queue.specs.Waiting.{waiting}
use Rattle.core_index.specs.Index.{known_at, room_at}
use Rattle.core_index.specs.Records.{block_of, last_of}
use Rattle.lazy_alloc.specs.Sets.{free_chunk_count, block_is_used}
use Rattle.group_laws.specs.declared.types.Pending.{Pending}
use Rattle.store_image.specs.Facts.{In}
use Rattle.group_laws.specs.declared.types.Seen.TheVariants as loads
use Rattle.group_laws.specs.declared.types.SlotWord.TheVariants as words
use Rattle.group_laws.specs.Places as groups
use Rattle.group_laws.specs.MemberViews.{View}
use Rattle.group_board.specs.Assurances.{IsHome}
use Rattle.group_board.specs.Views.{after_finish, after_give_up, TidiedIn}
use Rattle.core_worker.specs.declared.types.Place.{Place}
use Rattle.core_worker.specs.declared.types.Place.TheVariants.{Free, Staged, Posted}
use Rattle.core_worker.specs.declared.worker.Worker.{Worker}
use Rattle.core_worker.specs.OwnPlaces.{place_at, key_in, is_free, is_busy, own, Replaces}
use Rattle.core_worker.specs.KeyTies.{IsPlaced, Offers}
use Rattle.core_worker.specs.Ties.{Holds, LeadsNothing}
use Rattle.core_worker.specs.Order.{InOrder, count_changes}
use Rattle.core_worker.specs.Refusals.{HasAnswerRoom}
use Rattle.core_worker.specs.Beginning.{HoldsAside}
use Rattle.core_worker.specs.Hearing.{HearsAll}
use Rattle.core_worker.specs.StandingTies.{HearsOwn}
use Rattle.core_worker.specs.Serving.{LeadsNothingYet}
use Rattle.core_worker.specs.Finishing.{done_reply, LetsGo, Settles, TakesBackKey, MayBeginWaiting, IsFreed}
use Rattle.core_worker.proofs.Beginnings.{aside_of}
use Rattle.core_worker.proofs.Posts.{busy_by}
use Rattle.core_worker.proofs.RoomKept.{own_with}
use Rattle.core_worker.proofs.PuttingBack.{put_count}
use Rattle.core_worker.proofs.Freeing.{Frees, busy_was, idle_now, busy_still, freed_holds, freed_stands}
use Rattle.core_worker.proofs.UnderWay.{room_fewer}
use Rattle.core_worker.proofs.FreedOrder.{FreesInOrder, freed_order, waiting_few}
use Rattle.core_worker.proofs.GivingUp.{gives_up, gives_up_order}
use Rattle.core_worker.proofs.Settling.{settles, settles_order, replaced_used, next_here}

-- where a pending change stands
pub record Stood (p : groups.Place) (m : ℕ) (v : View) (w : Worker) (slot : ℕ) (e : Entry) : Type 0 where
  pub number : ℕ
  pub lines : ℕ
  pub within : slot < 8
  pub place : place_at w.places.items slot ≡ Posted number e.key lines
  pub own : groups.owner p e.key ≡ m
  pub offers : Offers v e.key e.body

slot_of : Option Pending → Option ℕ
slot_of None = None
slot_of (Some q) = q.slot

entry_of : Entry → Option Pending → Entry
entry_of e None = e
entry_of e (Some q) = q.entry

pub stood : (p : groups.Place) (m : ℕ) (v : View) (w : Worker) → Holds p m v w → (slot : ℕ) (e : Entry) → v.pending e.key ≡ Some (record { entry = e; slot = Some slot }) → Stood p m v w slot e
unfolding slot_of entry_of
stood p m v w H slot e pends = ⊎_elim
    (λ y.
    let is = subst (IsPlaced p m v y.0) y.4 (H.placed y.0 y.3) in
    let same : Some (record { entry = e; slot = Some slot }) ≡ Some (record { entry = is.0; slot = Some y.0 }) = sym pends ∙ is.1 in
    let at : slot ≡ y.0 = (let two : Some slot ≡ Some y.0 = ap slot_of same in cc two) in
    let entry : e ≡ is.0 = ap (entry_of e) same in
    record {
      number = y.1;
      lines = y.2;
      within = subst (λ (n : ℕ). n < 8) (sym at) y.3;
      place = ap (place_at w.places.items) at ∙ y.4;
      own = is.3;
      offers = subst (λ (d : Entry). Offers v e.key d.body) (sym entry) is.4;
    })
    (λ y. absurd (let none = y.0 in cc none))
    (H.pending e.key _ pends)

-- a worker with a place freed, whatever became of its change
module _ (p : groups.Place) (m key slot : ℕ) (v u : View) (w x : Worker) (H : Holds p m v w) (O : InOrder p m v w) (lt : slot < 8) (was : key_in (place_at w.places.items slot) ≡ Some key) (mine : groups.owner p key ≡ m) (F : Frees p m key slot v u w x) (G : FreesInOrder p m key v u w x)
    (queue : x.queue ≡ w.queue) (winds : x.winds_down ≡ w.winds_down) (room : length (waiting w.queue key) ≤ room_at x.index key) (chunks : free_chunk_count x.allocator ≡ free_chunk_count w.allocator) (nothing : LeadsNothingYet x) where
  aside : HoldsAside p m v w
  aside = aside_of p m v w H

  idle_then : (k : ℕ) → k ≢ key → is_busy x.places.items k ≡ false → is_busy w.places.items k ≡ false
  idle_then k ne idle = by (is_busy w.places.items k) refl where
    by : (b : Bool) → is_busy w.places.items k ≡ b → is_busy w.places.items k ≡ false
    by false e = e
    by true e = absurd (let both : true ≡ false = sym (busy_still p m key slot v u w x aside lt was F k ne e) ∙ idle in cc both)

  busy_then : (k : ℕ) → k ≢ key → is_busy x.places.items k ≡ true → is_busy w.places.items k ≡ true
  busy_then k ne busy = (busy_was p m key slot v u w x aside lt was F k busy).1

  ready : MayBeginWaiting x key
  ready = record {
    nothing = nothing;
    idle = idle_now p m key slot v u w x aside lt was F;
    room = subst (λ (hs : List Held). length (waiting hs key) ≤ room_at x.index key) (sym queue) room;
    place = (slot, lt, F.places.here);
    answers = (let all = G.answers in let few = waiting_few (λ h. key_of h.request == key) x.queue in omega (arith, all, few));
    others = record {
      admitted = λ j ne busy. (let had = H.admitted j (busy_then j ne busy) in let more = F.room j ne in let same = ap (λ (hs : List Held). length (waiting hs j)) queue in omega (arith, had, more, same));
      waits = λ on j ne idle. ap (λ (hs : List Held). waiting hs j) queue ∙ H.waits (sym winds ∙ on) j (idle_then j ne idle);
    };
  }

  less : own x.places.items ≤ own w.places.items
  less = let all = own_with w.places.items x.places.items slot Free F.places (let eight = H.eight in omega (arith, eight, lt)) in omega (arith, all)

  pub is_freed : IsFreed p m v u w x key
  is_freed = record {
    holds = freed_holds p m key slot v u w x aside lt was F;
    stands = freed_stands p m key slot v u w x aside lt was F;
    order = freed_order p m key slot v u w x aside was F O G;
    own = mine;
    ready = ready;
    rule = room_fewer w x less chunks F.log F.cleaning;
  }

nothing_yet : (w x : Worker) → x.leading ≡ w.leading → LeadsNothing w → LeadsNothingYet x
nothing_yet w x same n = λ runs. (n.0, same ∙ n.1)

-- a change that could not be written
pub gave_up : (p : groups.Place) (m : ℕ) (v u : View) (w x : Worker) (slot : ℕ) (e : Entry) → Holds p m v w → InOrder p m v w → LeadsNothing w → v.pending e.key ≡ Some (record { entry = e; slot = Some slot }) → TidiedIn p m (after_give_up e v) u
    → LetsGo (record w { stopped = true }) x slot replies.Stopped → IsFreed p m v u w x e.key
gave_up p m v u w x slot e H O N pends T L =
    let st = stood p m v w H slot e pends in
    let A = aside_of p m v w H in
    let y : Worker = record w { places = x.places; answers = x.answers; stopped = true } in
    let t : View = record (after_give_up e v) { last = T.0; told = T.1; dead = T.2 } in
    let same : x ≡ record w { places = x.places; answers = x.answers; stopped = true } = L.rest in
    let room = subst (λ (z : Worker). (n : ℕ) → HasAnswerRoom (n + 1) w → HasAnswerRoom n z) same L.room in
    let F = gives_up p m v w A O slot st.number e.key st.lines st.within st.place e refl pends T.0 T.1 T.2 T.3 N.0 N.1 x.places x.answers L.places room in
    let G = gives_up_order p m v w A O slot st.number e.key st.lines st.within st.place e refl pends T.0 T.1 T.2 T.3 N.0 N.1 x.places x.answers L.places room in
    let few = H.admitted e.key (busy_by w.places.items e.key slot (ap key_in st.place)) in
    subst (λ (z : Worker). IsFreed p m v u w z e.key) (sym same) (subst (λ (z : View). IsFreed p m v z w (record w { places = x.places; answers = x.answers; stopped = true }) e.key) (sym T.4)
    (is_freed p m e.key slot v (record (after_give_up e v) { last = T.0; told = T.1; dead = T.2 }) w (record w { places = x.places; answers = x.answers; stopped = true }) H O st.within (ap key_in st.place) st.own F G refl refl (omega (arith, few)) refl (λ r. absurd (cc r))))

-- a change that is certain in the log of its home
pub settled_freed : (p : groups.Place) (m : ℕ) (v u : View) (w mid x : Worker) (slot home : ℕ) (e : Entry) (r : Reply) → Holds p m v w → InOrder p m v w → LeadsNothing w → v.pending e.key ≡ Some (record { entry = e; slot = Some slot }) → TidiedIn p m (after_finish e home v) u
    → Settles w mid e (groups.core_of p home) → (home ≡ m → In e v.kept) → LetsGo mid x slot r → IsFreed p m v u w x e.key
settled_freed p m v u w mid x slot home e r H O N pends T S kept L =
    let st = stood p m v w H slot e pends in
    let A = aside_of p m v w H in
    let same : x ≡ record w { index = mid.index; allocator = mid.allocator; standing = mid.standing; places = x.places; answers = x.answers } = subst (λ (z : Worker). x ≡ record z { places = x.places; answers = x.answers }) S.rest L.rest in
    let old_places : mid.places ≡ w.places = ap (λ (z : Worker). z.places) S.rest in
    let R : Replaces w.places.items x.places.items slot Free = subst (λ (ps : Vec Place Global). Replaces ps.items x.places.items slot Free) old_places L.places in
    let room : (n : ℕ) → HasAnswerRoom (n + 1) w → HasAnswerRoom n (record w { index = mid.index; allocator = mid.allocator; standing = mid.standing; places = x.places; answers = x.answers }) =
    subst (λ (z : Worker). (n : ℕ) → HasAnswerRoom (n + 1) w → HasAnswerRoom n z) same (λ n had. L.room n (subst (λ (z : Worker). HasAnswerRoom (n + 1) z) (sym S.rest) had)) in
    let heard = subst (λ (c : ℕ). HearsAll c S.mid mid.index) H.core S.heard in
    let tells = subst (λ (c : ℕ). HearsOwn c S.mid w.standing mid.standing) H.core S.told in
    let F = settles p m v w A O slot st.number e.key st.lines st.within st.place e refl st.own pends st.offers home T.0 T.1 T.2 T.3 S.mid mid.index mid.allocator S.settled_now S.used S.others heard mid.standing tells kept S.sets S.block N.0 N.1 x.places x.answers R room in
    let G = settles_order p m v w A O slot st.number e.key st.lines st.within st.place e refl st.own pends st.offers home T.0 T.1 T.2 T.3 S.mid mid.index mid.allocator S.settled_now S.used S.others heard mid.standing tells kept S.sets S.block N.0 N.1 x.places x.answers R room in
    let few = H.admitted e.key (busy_by w.places.items e.key slot (ap key_in st.place)) in
    let left = S.used in
    let stays = heard.room e.key in
    subst (λ (z : Worker). IsFreed p m v u w z e.key) (sym same) (subst (λ (z : View). IsFreed p m v z w (record w { index = mid.index; allocator = mid.allocator; standing = mid.standing; places = x.places; answers = x.answers }) e.key) (sym T.4)
    (is_freed p m e.key slot v (record (after_finish e home v) { last = T.0; told = T.1; dead = T.2 }) w (record w { index = mid.index; allocator = mid.allocator; standing = mid.standing; places = x.places; answers = x.answers }) H O st.within (ap key_in st.place) st.own F G refl refl (omega (arith, few, left, stays))
    (put_count w.allocator mid.allocator (block_of (known_at w.index e.key)) S.block) (λ runs. N)))

-- the change counts among the unanswered ones
count_some : (ps : List Place) (s k : ℕ) → key_in (place_at ps s) ≡ Some k → 1 ≤ count_changes ps
count_some [] s k e = absurd (cc e)
count_some (Free ∷ ps) zero k e = absurd (cc e)
count_some (Staged n d u ∷ ps) zero k e = omega arith
count_some (Posted n j l ∷ ps) zero k e = omega arith
count_some (x ∷ ps) (suc s) k e = let more = count_some ps s k e in omega (arith, more)

pub one_room : (p : groups.Place) (m : ℕ) (v : View) (w : Worker) (slot k : ℕ) → InOrder p m v w → key_in (place_at w.places.items slot) ≡ Some k → HasAnswerRoom 1 w
one_room p m v w slot k O is = let had = O.answers in let one = count_some w.places.items slot k is in omega (arith, had, one)

pub settled_room : (w mid : Worker) (e : Entry) (home : ℕ) → Settles w mid e home → HasAnswerRoom 1 w → HasAnswerRoom 1 mid
settled_room w mid e home S had = subst (λ (z : Worker). HasAnswerRoom 1 z) (sym S.rest) had

pub taken_place : (p : groups.Place) (m : ℕ) (v : View) (w : Worker) (slot : ℕ) (e : Entry) → Stood p m v w slot e → is_free (place_at w.places.items slot) ≡ false
taken_place p m v w slot e st = ap is_free st.place

-- what the index and the allocator ask of a settled change
module _ (p : groups.Place) (m : ℕ) (v : View) (w : Worker) (H : Holds p m v w) (O : InOrder p m v w) (slot : ℕ) (e : Entry) (pends : v.pending e.key ≡ Some (record { entry = e; slot = Some slot })) where
  st : Stood p m v w slot e
  st = stood p m v w H slot e pends

  pub settle_room : 0 < room_at w.index e.key
  settle_room = let few = H.admitted e.key (busy_by w.places.items e.key slot (ap key_in st.place)) in omega (arith, few)

  pub settle_next : e.version ≡ last_of (known_at w.index e.key) + 1
  settle_next = next_here p m v w (aside_of p m v w H) O slot st.number e.key st.lines st.within st.place e refl st.own pends st.offers

  pub settle_used : IfSome (block_of (known_at w.index e.key)) (λ q. block_is_used w.allocator q ≡ true)
  settle_used = by (block_of (known_at w.index e.key)) refl where
    by : (o : Option ℕ) → block_of (known_at w.index e.key) ≡ o → IfSome o (λ q. block_is_used w.allocator q ≡ true)
    by None is = tt
    by (Some q) is = replaced_used p m v w (aside_of p m v w H) O slot st.number e.key st.lines st.within st.place e refl st.own pends st.offers q is

-- the two ways in which a change comes back
module _ (p : groups.Place) (m slot : ℕ) (v u : View) (w : Worker) (e : Entry) (H : Holds p m v w) (O : InOrder p m v w) (N : LeadsNothing w) (pends : v.pending e.key ≡ Some (record { entry = e; slot = Some slot })) (home : Option ℕ)
    (seen : MatchOption home (In (loads.Slot m slot words.Failed) v.looked) (λ h. In (loads.Slot m slot (words.Done h)) v.looked))
    (view : MatchOption home (TidiedIn p m (after_give_up e v) u) (λ h. TidiedIn p m (after_finish e h v) u)) where
  tidied_none : home ≡ None → TidiedIn p m (after_give_up e v) u
  tidied_none none = subst (λ (o : Option ℕ). MatchOption o (TidiedIn p m (after_give_up e v) u) (λ h. TidiedIn p m (after_finish e h v) u)) none view

  tidied_some : (h : ℕ) → home ≡ Some h → TidiedIn p m (after_finish e h v) u
  tidied_some h some = subst (λ (o : Option ℕ). MatchOption o (TidiedIn p m (after_give_up e v) u) (λ h. TidiedIn p m (after_finish e h v) u)) some view

  seen_as : (o : Option ℕ) → home ≡ o → MatchOption o (In (loads.Slot m slot words.Failed) v.looked) (λ h. In (loads.Slot m slot (words.Done h)) v.looked)
  seen_as o same = subst (λ (o : Option ℕ). MatchOption o (In (loads.Slot m slot words.Failed) v.looked) (λ h. In (loads.Slot m slot (words.Done h)) v.looked)) same seen

  pub failed_freed : (x : Worker) → home ≡ None → LetsGo (record w { stopped = true }) x slot replies.Stopped → IsFreed p m v u w x e.key
  failed_freed x none L = gave_up p m v u w x slot e H O N pends (tidied_none none) L

  pub failed_takes : (x : Worker) → home ≡ None → LetsGo (record w { stopped = true }) x slot replies.Stopped → TakesBackKey p m slot v u w x e.key
  failed_takes x none L =
      let here = stood p m v w H slot e pends in
      (record { number = here.number; lines = here.lines; entry = e; home = None; place = here.place; pending = pends; seen = seen_as None none; view = tidied_none none; mid = record w { stopped = true }; settles = refl; lets = L }, refl)

  module _ (mid x : Worker) (h core : ℕ) (reply : Reply) (some : home ≡ Some h) (core_is : core ≡ groups.core_of p h) (S : Settles w mid e core) (at_home : IfSome home (IsHome p m v e)) (is : reply ≡ done_reply e.body) (L : LetsGo mid x slot reply) where
    settled_at : Settles w mid e (groups.core_of p h)
    settled_at = subst (λ (c : ℕ). Settles w mid e c) core_is S

    pub done_freed : IsFreed p m v u w x e.key
    done_freed = settled_freed p m v u w mid x slot h e reply H O N pends (tidied_some h some) settled_at (subst (λ (o : Option ℕ). IfSome o (IsHome p m v e)) some at_home).kept L

    pub done_takes : TakesBackKey p m slot v u w x e.key
    done_takes =
        let here = stood p m v w H slot e pends in
        (record { number = here.number; lines = here.lines; entry = e; home = Some h; place = here.place; pending = pends; seen = seen_as (Some h) some; view = tidied_some h some; mid = mid; settles = settled_at; lets = subst (λ (r : Reply). LetsGo mid x slot r) is L }, refl)
