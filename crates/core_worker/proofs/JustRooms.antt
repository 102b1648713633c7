-- The index has room for just the changes that may come: what each call does to that.
use Rattle.std.proofs.Common.{◌≡◌, ◌≢◌, ◌⊎◌, inl, inr, ⊎_elim, ℕ, ◌+◌, ◌<◌, ◌≤◌, ◌||◌, Bool, true, false, cond, List, [], ◌∷◌, length, length-append, Result, Ok, Err, Option, Some, None, refl, sym, ◌∙◌, ap, subst, arith}
use Rattle.std.specs.Prelude.{MatchOption, is_some}
use Rattle.std.proofs.lemmas.Bool.{cases_eq}
use Rattle.chunk_map.specs.declared.layouts.Geometry.{Geometry}
use Rattle.recover.specs.declared.types.CoreStart.{CoreStart}
use Rattle.fs_model.specs.declared.memory.Memory.{Memory}
use Rattle.fs_model.specs.declared.model.Request.{Request}
use Rattle.fs_model.specs.declared.model.Request.TheVariants as requests
use Rattle.fs_model.specs.declared.model.Reply.{Reply}
use Rattle.fs_model.specs.Cells.{key_of}
use Rattle.pm_region.specs.State.{State, IsTelling}
use Rattle.log_entry.specs.declared.entry.Entry.{Entry}
use Rattle.conflict_queue.specs.declared.types.Held.{Held}
use Rattle.conflict_queue.specs.Waiting.{waiting, AddsLast}
use Rattle.core_index.specs.Index.{known_at, room_at}
use Rattle.core_index.specs.Records.{live_version}
use Rattle.group_laws.specs.declared.types.Seen.{Seen}
use Rattle.group_laws.specs.State.{Group}
use Rattle.group_laws.specs.Places as groups
use Rattle.group_laws.specs.MemberViews.{View}
use Rattle.group_board.specs.Seats.{SeatAt}
use Rattle.batch_leader.specs.TakenChanges.{taken_in}
use Rattle.core_worker.specs.declared.types.Place.{Place}
use Rattle.core_worker.specs.declared.types.Place.TheVariants.{Free, Posted}
use Rattle.core_worker.specs.declared.types.Turn.{Turn}
use Rattle.core_worker.specs.declared.types.Turn.TheVariants.{Moved, Idle}
use Rattle.core_worker.specs.declared.worker.Worker.{Worker}
use Rattle.core_worker.specs.OwnPlaces.{place_at, key_in, is_busy, AreApart, Replaces}
use Rattle.core_worker.specs.IndexRoom.{coming, HasJustRoom}
use Rattle.core_worker.specs.Plans.{may_stage}
use Rattle.core_worker.specs.Accepting.{IsAsBefore, IsTied, Prepared, wants_room}
use Rattle.core_worker.specs.Ties.{Tie}
use Rattle.core_worker.specs.Beginning.{OnlyBegins, UsesRoom, IsStaged, Begins, BeginsAll, BeginsShort}
use Rattle.core_worker.specs.Serving.{OnlyServes, KeepsLine}
use Rattle.core_worker.specs.Finishing.{LetsGo, Settles, Serves, ShortOf, FinishesSlot, reply_back}
use Rattle.core_worker.specs.Stopping.{WithdrawsOrUnlocks}
use Rattle.core_worker.specs.Openings.{IsNew}
use Rattle.core_worker.specs.Turns.{Moment, SameButLeading, UnpledgedAt, PersistsOrLoses, Posts, Receives, Sends, Copies}
use Rattle.core_worker.specs.Readying.{PassesSending, TakesDead}
use Rattle.core_worker.proofs.SentTurns.{passes_takes}
use Rattle.log_cleaner.specs.Clearing.{ClearingState}
use Rattle.core_worker.specs.DoomsNames.{DoomsIn}
use Rattle.core_worker.specs.BeginsCleaning.{BeginsNone}
use Rattle.core_worker.specs.EndsCleaning.{EndsIn}
use Rattle.core_worker.specs.GoneNames.{is_forgotten}
use Rattle.core_worker.proofs.EndedKeys.{key_restarted}
use Rattle.core_worker.specs.Turning.{Did, TurnedTo}
use Rattle.core_worker.proofs.Posts.{busy_by, busy_has, busy_same}
use Rattle.core_worker.proofs.Waiters.{first_key}
use Rattle.core_worker.proofs.Beginnings.{staged_keeps}
use Rattle.core_worker.proofs.ServedLines.{begins_one}

-- Which keys are busy.
bool_same : (a b : Bool) → (a ≡ true → b ≡ true) → (b ≡ true → a ≡ true) → b ≡ a
bool_same true b f g = f refl
bool_same false true f g = sym (g refl)
bool_same false false f g = refl

same_busy : (xs ys : List Place) (k : ℕ) → ((s : ℕ) → key_in (place_at ys s) ≡ key_in (place_at xs s)) → is_busy ys k ≡ is_busy xs k
same_busy xs ys k same = bool_same (is_busy xs k) (is_busy ys k)
    (λ busy. let at = busy_has xs k busy in busy_by ys k at.0 (same at.0 ∙ at.2))
    (λ busy. let at = busy_has ys k busy in busy_by xs k at.0 (sym (same at.0) ∙ at.2))

-- a place of a busy key is freed
freed_busy : (xs ys : List Place) (s k j : ℕ) → Replaces xs ys s Free → key_in (place_at xs s) ≡ Some k → j ≢ k → is_busy ys j ≡ is_busy xs j
freed_busy xs ys s k j R key ne = bool_same (is_busy xs j) (is_busy ys j)
    (λ busy. let at = busy_has xs j busy in
    busy_by ys j at.0 (ap key_in (R.others at.0 (λ e. ne (let both : Some k ≡ Some j = sym key ∙ ap (λ n. key_in (place_at xs n)) (sym e) ∙ at.2 in let same : k ≡ j = cc both in sym same))) ∙ at.2))
    (λ busy. let at = busy_has ys j busy in
    busy_by xs j at.0 (sym (ap key_in (R.others at.0 (λ e. (let both : None ≡ Some j = sym (ap key_in R.here) ∙ ap (λ n. key_in (place_at ys n)) (sym e) ∙ at.2 in cc both)))) ∙ at.2))

freed_idle : (xs ys : List Place) (s k : ℕ) → AreApart xs → Replaces xs ys s Free → key_in (place_at xs s) ≡ Some k → is_busy ys k ≡ false
freed_idle xs ys s k apart R key = by (is_busy ys k) refl where
  by : (b : Bool) → is_busy ys k ≡ b → is_busy ys k ≡ false
  by false e = e
  by true e =
      let at = busy_has ys k e in
      let ne : at.0 ≢ s = λ same. (let both : None ≡ Some k = sym (ap key_in R.here) ∙ ap (λ n. key_in (place_at ys n)) (sym same) ∙ at.2 in cc both) in
      absurd (ne (apart at.0 s k (ap key_in (sym (R.others at.0 ne)) ∙ at.2) key))

-- another key's change is staged
staged_others : (w u : Worker) (n k j : ℕ) (r : Request) → IsStaged w u n r → key_of r ≡ k → j ≢ k → is_busy u.places.items j ≡ is_busy w.places.items j
staged_others w u n k j r S is ne = bool_same (is_busy w.places.items j) (is_busy u.places.items j) (staged_keeps w u n r S j)
    (λ busy. let at = busy_has u.places.items j busy in
    busy_by w.places.items j at.0 (ap key_in (sym (S.placed.others at.0 (λ same. ne (let both : Some j ≡ Some S.entry.key = sym at.2 ∙ ap (λ t. key_in (place_at u.places.items t)) same ∙ ap key_in S.placed.here in let at_key : j ≡ S.entry.key = cc both in at_key ∙ S.key ∙ is)))) ∙ at.2))

-- A request is accepted.

-- whether it may become a change depends on the records alone
pub stage_same : (w u : Worker) (r : Request) → ((j : ℕ) → known_at u.index j ≡ known_at w.index j) → may_stage u r ≡ may_stage w r
stage_same w u (requests.Put k v) records = refl
stage_same w u (requests.Get k) records = refl
stage_same w u (requests.Delete k) records = ap (λ o. is_some (live_version o)) (records k)

pub wanted_by : (a b : Bool) → b ≡ true → (a || b) ≡ true
wanted_by true b e = refl
wanted_by false b e = e

pub wanted_busy : (a b : Bool) → a ≡ true → (a || b) ≡ true
wanted_busy a b e = ap (λ (x : Bool). x || b) e

pub wanted_none : (a b : Bool) → a ≡ false → b ≡ false → (a || b) ≡ false
wanted_none a b e f = ap (λ (x : Bool). x || b) e ∙ f

-- memory was taken, or was not there
pub just_before : (w u : Worker) → IsAsBefore w u → ((j : ℕ) → room_at u.index j ≡ room_at w.index j) → HasJustRoom w → HasJustRoom u
just_before w u B room J runs works k =
    room k ∙ J (sym (ap (λ (y : Worker). y.stopped) B.rest) ∙ runs) (sym (ap (λ (y : Worker). y.winds_down) B.rest) ∙ works) k ∙ sym (ap (λ (y : Worker). coming y k) B.rest)

one_most : (b : Bool) → cond b 1 0 ≤ 1
one_most true = omega arith
one_most false = omega arith

-- it is held
pub just_held : (w u : Worker) (q : List Held) (h : Held) (b : Bool) → IsAsBefore w u → Prepared w u (key_of h.request) b → b ≡ true → AddsLast u.queue q h → HasJustRoom w → HasJustRoom (record u { queue = q })
just_held w u q h b B P wanted A J runs works k =
    let was = J (sym (ap (λ (y : Worker). y.stopped) B.rest) ∙ runs) (sym (ap (λ (y : Worker). y.winds_down) B.rest) ∙ works) in
    let before : (j : ℕ) → coming u j ≡ coming w j = λ j. ap (λ (y : Worker). coming y j) B.rest in
    ⊎_elim
    (λ (e : k ≡ key_of h.request).
    let i = key_of h.request in
    let more = P.record_room in
    let one : cond b 1 0 ≡ 1 = ap (λ (x : Bool). cond {A = ℕ} x 1 0) wanted in
    let had = was i in
    let same = before i in
    let longer : length (waiting q i) ≡ length (waiting u.queue i) + 1 = ap length A.key ∙ length-append (waiting u.queue i) (h ∷ []) in
    let all : room_at u.index i ≡ coming (record u { queue = q }) i = omega (arith, more, one, had, same, longer) in
    subst (λ j. room_at u.index j ≡ coming (record u { queue = q }) j) (sym e) all)
    (λ (ne : k ≢ key_of h.request).
    let stays = P.others k ne in
    let had = was k in
    let same = before k in
    let rest : length (waiting q k) ≡ length (waiting u.queue k) = ap length (A.others k ne) in
    omega (arith, stays, had, same, rest))
    (cases_eq k (key_of h.request))

-- it is begun
module _ (w u b : Worker) (k : ℕ) (wanted : Bool) (B : IsAsBefore w u) (P : Prepared w u k wanted) (idle : is_busy w.places.items k ≡ false) (none : waiting w.queue k ≡ []) (only : OnlyBegins u b) (uses : UsesRoom u b k)
    (others : (j : ℕ) → j ≢ k → is_busy b.places.items j ≡ is_busy u.places.items j) (some : is_busy b.places.items k ≡ true → 0 < room_at b.index k) where
  pub just_begun : HasJustRoom w → HasJustRoom b
  just_begun J runs works j =
      let was = J (sym (ap (λ (y : Worker). y.stopped) only ∙ ap (λ (y : Worker). y.stopped) B.rest) ∙ runs) (sym (ap (λ (y : Worker). y.winds_down) only ∙ ap (λ (y : Worker). y.winds_down) B.rest) ∙ works) in
      ⊎_elim
      (λ (e : j ≡ k). subst (λ i. room_at b.index i ≡ coming b i) (sym e) (by (is_busy b.places.items k) refl (was k)))
      (λ (ne : j ≢ k).
      let had = was j in
      let a = uses.others j ne in
      let c = P.others j ne in
      let same = queue j in
      let busy : cond (is_busy b.places.items j) 1 0 ≡ cond (is_busy w.places.items j) 1 0 = ap (λ (x : Bool). cond {A = ℕ} x 1 0) (others j ne ∙ ap (λ (y : Worker). is_busy y.places.items j) B.rest) in
      omega (arith, had, a, c, same, busy))
      (cases_eq j k)
    where
      queue : (i : ℕ) → length (waiting b.queue i) ≡ length (waiting w.queue i)
      queue i = ap (λ (y : Worker). length (waiting y.queue i)) only ∙ ap (λ (y : Worker). length (waiting y.queue i)) B.rest

      by : (d : Bool) → is_busy b.places.items k ≡ d → room_at w.index k ≡ coming w k → room_at b.index k ≡ coming b k
      by true e had =
          let now = uses.staged e in
          let more = P.record_room in
          let most = one_most wanted in
          let least = some e in
          let before : cond (is_busy w.places.items k) 1 0 ≡ 0 = ap (λ (x : Bool). cond {A = ℕ} x 1 0) idle in
          let after : cond (is_busy b.places.items k) 1 0 ≡ 1 = ap (λ (x : Bool). cond {A = ℕ} x 1 0) e in
          let empty = ap length none in
          let same = queue k in
          omega (arith, had, now, more, most, least, before, after, empty, same)
      by false e had =
          let now = uses.answered e in
          let more = P.record_room in
          let most = one_most wanted in
          let before : cond (is_busy w.places.items k) 1 0 ≡ 0 = ap (λ (x : Bool). cond {A = ℕ} x 1 0) idle in
          let after : cond (is_busy b.places.items k) 1 0 ≡ 0 = ap (λ (x : Bool). cond {A = ℕ} x 1 0) e in
          let empty = ap length none in
          let same = queue k in
          omega (arith, had, now, more, most, before, after, empty, same)

pub accepted_just : (s : State) (w u b : Worker) (q : Request) (wanted : Bool) → IsAsBefore w u → Prepared w u (key_of q) wanted → w.winds_down ≡ false → is_busy w.places.items (key_of q) ≡ false → (t : Tie) → IsTied s w (key_of q) t → IsTied s b (key_of q) t → OnlyBegins u b → UsesRoom u b (key_of q) → ((j : ℕ) → is_busy u.places.items j ≡ true → is_busy b.places.items j ≡ true) → KeepsLine u b (key_of q)
    → HasJustRoom w → HasJustRoom b
accepted_just s w u b q wanted B P works idle t T N only uses busy line J =
    just_begun w u b (key_of q) wanted B P idle (T.holds.waits works (key_of q) idle) only uses
    (λ j ne. bool_same (is_busy u.places.items j) (is_busy b.places.items j) (busy j) (line.others j ne))
    (λ on. (let least = N.holds.admitted (key_of q) on in omega (arith, least))) J

-- it is given back, and no room was made for it
pub returned_just : (w u : Worker) (q : Request) (wanted : Bool) → IsAsBefore w u → Prepared w u (key_of q) wanted → wanted ≡ wants_room w q → is_busy w.places.items (key_of q) ≡ false → may_stage u q ≡ false → HasJustRoom w → HasJustRoom u
returned_just w u q wanted B P is idle gets J =
    let none : wanted ≡ false = is ∙ wanted_none (is_busy w.places.items (key_of q)) (may_stage w q) idle (sym (stage_same w u q B.records) ∙ gets) in
    let no_room : cond wanted 1 0 ≡ 0 = ap (λ (x : Bool). cond {A = ℕ} x 1 0) none in
    let more = P.record_room in
    just_before w u B (λ j. ⊎_elim (λ (e : j ≡ key_of q). subst (λ i. room_at u.index i ≡ room_at w.index i) (sym e) (omega (arith, more, no_room))) (P.others j) (cases_eq j (key_of q))) J

-- of one that is answered at once no room is left
pub accepted_roomy : (w u b : Worker) (q : Request) (wanted : Bool) → Prepared w u (key_of q) wanted → UsesRoom u b (key_of q) → is_busy b.places.items (key_of q) ≡ false → (j : ℕ) → room_at b.index j ≤ room_at w.index j
accepted_roomy w u b q wanted P uses idle j = ⊎_elim
    (λ (same : j ≡ key_of q). subst (λ i. room_at b.index i ≤ room_at w.index i) (sym same)
    (let now = uses.answered idle in let more = P.record_room in let most = one_most wanted in omega (arith, now, more, most)))
    (λ (ne : j ≢ key_of q). (let a = uses.others j ne in let c = P.others j ne in omega (arith, a, c)))
    (cases_eq j (key_of q))

-- The waiting requests of a key are begun.

-- which other keys are busy does not change
begun_others : (Known : Type 0) (w u : Worker) (cell : Option (List ℕ)) (n k : ℕ) (r : Request) → Begins Known w u cell n r → key_of r ≡ k → (j : ℕ) → j ≢ k → is_busy u.places.items j ≡ is_busy w.places.items j
begun_others Known w u cell n k r begins is j ne = ⊎_elim
    (λ A. ap (λ (ps : List Place). is_busy ps j) A.is.places)
    (λ S. staged_others w u n k j r S.1 is ne)
    (begins_one Known w u cell n r begins)

abbrev rest_of : List Held → List Held
rest_of [] = []
rest_of (y ∷ ys) = ys

module _ (Known : Type 0) (k : ℕ) (cell : Option (List ℕ)) where
  pub just_all : (hs : List Held) (w x : Worker) → BeginsAll Known hs w x cell k → is_busy w.places.items k ≡ false → waiting w.queue k ≡ hs → room_at w.index k ≡ length hs → ((j : ℕ) → j ≢ k → room_at w.index j ≡ coming w j) → (j : ℕ) → room_at x.index j ≡ coming x j
  just_all [] w x begins idle waits room others j = subst (λ (y : Worker). room_at y.index j ≡ coming y j) (sym begins)
      (⊎_elim
      (λ (e : j ≡ k). subst (λ i. room_at w.index i ≡ coming w i) (sym e)
      (let none = ap length waits in let off : cond (is_busy w.places.items k) 1 0 ≡ 0 = ap (λ (b : Bool). cond {A = ℕ} b 1 0) idle in omega (arith, none, off, room)))
      (others j) (cases_eq j k))
  just_all (h ∷ hs) w x begins idle waits room others j =
      let next = begins.0 in
      let mid = begins.1 in
      let T = begins.2 in
      let same = begins.3 in
      let only = begins.4 in
      let begun = begins.5 in
      let uses = begins.6 in
      let busy_mid : (j : ℕ) → j ≢ k → is_busy mid.places.items j ≡ is_busy w.places.items j =
      λ j ne. begun_others Known next mid cell h.number k h.request begun (first_key w.queue next.queue k h T) j ne ∙ ap (λ (y : Worker). is_busy y.places.items j) same in
      let index : (j : ℕ) → room_at next.index j ≡ room_at w.index j = λ j. ap (λ (y : Worker). room_at y.index j) same in
      let queue : (j : ℕ) → waiting mid.queue j ≡ waiting next.queue j = λ j. ap (λ (y : Worker). waiting y.queue j) only in
      let left : waiting mid.queue k ≡ hs = queue k ∙ (let both : h ∷ waiting next.queue k ≡ h ∷ hs = sym T.key ∙ waits in ap rest_of both) in
      let rest : (j : ℕ) → j ≢ k → room_at mid.index j ≡ coming mid j = λ j ne. (
      let had = others j ne in
      let a = uses.others j ne in
      let c = index j in
      let l : length (waiting mid.queue j) ≡ length (waiting w.queue j) = ap length (queue j ∙ T.others j ne) in
      let d : cond (is_busy mid.places.items j) 1 0 ≡ cond (is_busy w.places.items j) 1 0 = ap (λ (b : Bool). cond {A = ℕ} b 1 0) (busy_mid j ne) in
      omega (arith, had, a, c, l, d)) in
      ⊎_elim
      (λ over. subst (λ (y : Worker). room_at y.index j ≡ coming y j) (sym over.1)
      (⊎_elim
      (λ (e : j ≡ k). subst (λ i. room_at mid.index i ≡ coming mid i) (sym e)
      (let a = uses.staged over.0 in
      let c = index k in
      let l = ap length left in
      let on : cond (is_busy mid.places.items k) 1 0 ≡ 1 = ap (λ (b : Bool). cond {A = ℕ} b 1 0) over.0 in
      omega (arith, room, a, c, l, on)))
      (rest j) (cases_eq j k)))
      (λ more. just_all hs mid x more.1 more.0 left (let a = uses.answered more.0 in let c = index k in omega (arith, room, a, c)) rest j)
      begins.7

  short_winds : (hs : List Held) (w x : Worker) → BeginsShort Known hs w x cell k → x.winds_down ≡ true
  short_winds [] w x begins = absurd begins
  short_winds (h ∷ hs) w x begins = ⊎_elim
      (λ is. ap (λ (y : Worker). y.winds_down) is)
      (λ more. short_winds hs more.0 x more.5)
      begins.3

  -- what waits of a key is begun, once no change of it stands in a place
  just_served : (f x : Worker) → OnlyServes f x → Serves Known f x cell k ⊎ ShortOf Known f x cell k → is_busy f.places.items k ≡ false → room_at f.index k ≡ length (waiting f.queue k) → ((j : ℕ) → j ≢ k → room_at f.index j ≡ coming f j) → x.winds_down ≡ false → (j : ℕ) → room_at x.index j ≡ coming x j
  just_served f x only serves idle room others works = ⊎_elim
      (λ s. ⊎_elim
      (λ winds. absurd (let both : true ≡ false = sym winds.0 ∙ sym (ap (λ (y : Worker). y.winds_down) winds.1) ∙ works in cc both))
      (λ on. just_all (waiting f.queue k) f x on.1 idle refl room others) s)
      (λ short. absurd (let both : true ≡ false = sym (short_winds (waiting f.queue k) f x short.1) ∙ works in cc both))
      serves

-- A turn.

same_leading : (w x : Worker) → SameButLeading w x → HasJustRoom w → HasJustRoom x
same_leading w x same J = subst HasJustRoom (sym same) J

-- nothing but places of the same keys differs, of what counts
same_keys : (w x : Worker) → x.index ≡ w.index → x.queue ≡ w.queue → x.stopped ≡ w.stopped → (x.winds_down ≡ false → w.winds_down ≡ false) → ((s : ℕ) → key_in (place_at x.places.items s) ≡ key_in (place_at w.places.items s)) → HasJustRoom w → HasJustRoom x
same_keys w x index queue stopped winds keys J runs works k =
    let had = J (sym stopped ∙ runs) (winds works) k in
    let room = ap (λ es. room_at es k) index in
    let l : length (waiting x.queue k) ≡ length (waiting w.queue k) = ap (λ (q : List Held). length (waiting q k)) queue in
    let busy : cond (is_busy x.places.items k) 1 0 ≡ cond (is_busy w.places.items k) 1 0 = ap (λ (b : Bool). cond {A = ℕ} b 1 0) (same_busy w.places.items x.places.items k keys) in
    omega (arith, had, room, l, busy)

unpledged_key : (o : Option Entry) (x y : Place) → UnpledgedAt o x y → key_in y ≡ key_in x
unpledged_key None x y same = ap key_in same
unpledged_key (Some e) x y at = ap key_in at.2 ∙ sym (ap key_in at.1)

just_stopped : (x : Worker) → x.stopped ≡ true → HasJustRoom x
just_stopped x stopped runs = absurd (let both : true ≡ false = sym stopped ∙ runs in cc both)

just_writes : (m : ℕ) (a b : Moment) (d : Bool) → b.worker.stopped ≡ d → PersistsOrLoses d m a b → HasJustRoom a.worker → HasJustRoom b.worker
just_writes m a b true e L J = just_stopped b.worker e
just_writes m a b false e P J = same_keys a.worker b.worker (ap (λ (y : Worker). y.index) P.same) (ap (λ (y : Worker). y.queue) P.same) (ap (λ (y : Worker). y.stopped) P.same) (winds a.worker.winds_down refl)
    (λ s. unpledged_key (taken_in P.batch.changes.taken.items m s) (place_at a.worker.places.items s) (place_at b.worker.places.items s) (P.pledged s)) J
  where
    winds : (c : Bool) → a.worker.winds_down ≡ c → b.worker.winds_down ≡ false → a.worker.winds_down ≡ false
    winds false is works = is
    winds true is works = absurd (let both : true ≡ false = sym (P.winds is) ∙ works in cc both)

just_posts : (m : ℕ) (a b : Moment) → Posts m a b → HasJustRoom a.worker → HasJustRoom b.worker
just_posts m a b P J = same_keys a.worker b.worker (ap (λ (y : Worker). y.index) P.same) (ap (λ (y : Worker). y.queue) P.same) (ap (λ (y : Worker). y.stopped) P.same) (λ works. sym (ap (λ (y : Worker). y.winds_down) P.same) ∙ works)
    (λ s. ⊎_elim (λ (e : s ≡ P.slot). ap (λ n. key_in (place_at b.worker.places.items n)) e ∙ ap key_in P.places.here ∙ sym (ap key_in P.place) ∙ ap (λ n. key_in (place_at a.worker.places.items n)) (sym e)) (λ ne. ap key_in (P.places.others s ne)) (cases_eq s P.slot)) J

-- a change is finished
module _ (Known : Type 0) (w mid f x : Worker) (slot number lines : ℕ) (e : Entry) (cell : Option (List ℕ)) (reply : Reply) (apart : AreApart w.places.items) (place : place_at w.places.items slot ≡ Posted number e.key lines)
    (lets : LetsGo mid f slot reply) (only : OnlyServes f x) (serves : Serves Known f x cell e.key ⊎ ShortOf Known f x cell e.key) (J : HasJustRoom w) where
  finish_failed : mid ≡ record w { stopped = true } → HasJustRoom x
  finish_failed same = just_stopped x (ap (λ (y : Worker). y.stopped) only ∙ ap (λ (y : Worker). y.stopped) lets.rest ∙ ap (λ (y : Worker). y.stopped) same)

  finish_done : (home : ℕ) → Settles w mid e home → HasJustRoom x
  finish_done home Z runs works = just_served Known e.key cell f x only serves idle room others works where
    stopped : w.stopped ≡ false
    stopped = sym (ap (λ (y : Worker). y.stopped) only ∙ ap (λ (y : Worker). y.stopped) lets.rest ∙ ap (λ (y : Worker). y.stopped) Z.rest) ∙ runs

    winds_before : (b : Bool) → f.winds_down ≡ b → f.winds_down ≡ false
    winds_before false is = is
    winds_before true is = absurd (let both : true ≡ false = sym (served_winds is serves) ∙ works in cc both) where
      served_winds : f.winds_down ≡ true → Serves Known f x cell e.key ⊎ ShortOf Known f x cell e.key → x.winds_down ≡ true
      served_winds winds (inl (inl none)) = ap (λ (y : Worker). y.winds_down) none.1 ∙ winds
      served_winds winds (inl (inr on)) = absurd (let both : true ≡ false = sym winds ∙ on.0 in cc both)
      served_winds winds (inr short) = absurd (let both : true ≡ false = sym winds ∙ short.0 in cc both)

    was : (j : ℕ) → room_at w.index j ≡ coming w j
    was = J stopped (sym (ap (λ (y : Worker). y.winds_down) lets.rest ∙ ap (λ (y : Worker). y.winds_down) Z.rest) ∙ winds_before f.winds_down refl)

    key : key_in (place_at w.places.items slot) ≡ Some e.key
    key = ap key_in place

    free : Replaces w.places.items f.places.items slot Free
    free = subst (λ (y : Worker). Replaces y.places.items f.places.items slot Free) Z.rest lets.places

    idle : is_busy f.places.items e.key ≡ false
    idle = freed_idle w.places.items f.places.items slot e.key apart free key

    queue : (j : ℕ) → length (waiting f.queue j) ≡ length (waiting w.queue j)
    queue j = ap (λ (y : Worker). length (waiting y.queue j)) lets.rest ∙ ap (λ (y : Worker). length (waiting y.queue j)) Z.rest

    index : (j : ℕ) → room_at f.index j ≡ room_at Z.mid j
    index j = ap (λ (y : Worker). room_at y.index j) lets.rest ∙ Z.heard.room j

    room : room_at f.index e.key ≡ length (waiting f.queue e.key)
    room =
        let had = was e.key in
        let used = Z.used in
        let at = index e.key in
        let l = queue e.key in
        let on : cond (is_busy w.places.items e.key) 1 0 ≡ 1 = ap (λ (b : Bool). cond {A = ℕ} b 1 0) (busy_by w.places.items e.key slot key) in
        omega (arith, had, used, at, l, on)

    others : (j : ℕ) → j ≢ e.key → room_at f.index j ≡ coming f j
    others j ne =
        let had = was j in
        let stays = Z.others j ne in
        let at = index j in
        let l = queue j in
        let on : cond (is_busy f.places.items j) 1 0 ≡ cond (is_busy w.places.items j) 1 0 = ap (λ (b : Bool). cond {A = ℕ} b 1 0) (freed_busy w.places.items f.places.items slot e.key j free key ne) in
        omega (arith, had, stays, at, l, on)

  finish_by : (home : Option ℕ) (core : ℕ → ℕ) → MatchOption home (mid ≡ record w { stopped = true }) (λ h. Settles w mid e (core h)) → HasJustRoom x
  finish_by None core same = finish_failed same
  finish_by (Some h) core Z = finish_done (core h) Z

just_finishes : (s : State) (p : groups.Place) (m slot : ℕ) (v u : View) (w x : Worker) (all : Bool) → AreApart w.places.items → FinishesSlot s p m slot v u w x all → HasJustRoom w → HasJustRoom x
just_finishes s p m slot v u w x all apart F J =
    finish_by (IsTelling s) w F.takes.mid F.freed x slot F.takes.number F.takes.lines F.takes.entry (u.cell F.takes.entry.key) (reply_back F.takes.home F.takes.entry.body) apart F.takes.place F.takes.lets F.rest (by all refl) J F.takes.home (groups.core_of p) F.takes.settles
  where
    by : (b : Bool) → all ≡ b → Serves (IsTelling s) F.freed x (u.cell F.takes.entry.key) F.takes.entry.key ⊎ ShortOf (IsTelling s) F.freed x (u.cell F.takes.entry.key) F.takes.entry.key
    by true e = inl (F.begins e)
    by false e = inr (F.short e)

-- what a stopped core does leaves it stopped
just_withdraws : (s : State) (seat : SeatAt) (before after : Option Group) (v u : View) (w x : Worker) (all : Bool) → WithdrawsOrUnlocks s seat before after v u w x all → HasJustRoom w → HasJustRoom x
just_withdraws s seat before after v u w x all (inl W) J = just_stopped x (ap (λ (y : Worker). y.stopped) W.rest ∙ ap (λ (y : Worker). y.stopped) W.puts.2.lets.rest ∙ ap (λ (y : Worker). y.stopped) W.retracts.leads_now ∙ W.stopped)
just_withdraws s seat before after v u w x all (inr U) J = subst HasJustRoom (sym U.1.same) J

-- what is received makes no room, and makes no key busy
just_receives : (refused : Bool) (p : groups.Place) (m : ℕ) (a b : Moment) → Receives refused p m a b → HasJustRoom a.worker → HasJustRoom b.worker
just_receives refused p m a b R J runs works k =
    let X = R.hears.hears in
    let had = J R.runs.0 R.runs.1 k in
    let room = X.heard.room k ∙ X.loses.forgets.room k ∙ X.loses.lacks.room k in
    let queue = ap (λ (y : Worker). length (waiting y.queue k)) R.hears.same in
    let busy = ap (λ (c : Bool). cond {A = ℕ} c 1 0) (busy_same a.worker.places.items b.worker.places.items (λ s. ap key_in (X.loses.forgets.places s) ∙ key_restarted (is_forgotten R.hears.notices.gone a.worker.places.items X.loses.mid) (place_at a.worker.places.items s)) k) in
    omega (arith, had, room, queue, busy)

-- the end of a cleaning gives no room and takes none
just_ends : (p : groups.Place) (m : ℕ) (v u : View) (w x : Worker) (c : ClearingState) → EndsIn p m v u w x c → HasJustRoom w → HasJustRoom x
just_ends p m v u w x c E J runs works k =
    let was = J E.runs (sym (ap (λ (y : Worker). y.winds_down) E.same) ∙ works) k in
    let room = E.ends.heard.room k ∙ E.ends.loses.forgets.room k ∙ E.ends.loses.lacks.room k in
    let queue = ap (λ (y : Worker). length (waiting y.queue k)) E.same in
    let busy = ap (λ (b : Bool). cond {A = ℕ} b 1 0) (same_busy w.places.items x.places.items k (λ s. ap key_in (E.ends.loses.forgets.places s) ∙ key_restarted (is_forgotten w.own_gone.items w.places.items E.ends.loses.mid) (place_at w.places.items s))) in
    omega (arith, was, room, queue, busy)

-- what is taken to be told makes no room, and takes none
just_takes : (p : groups.Place) (w y : Worker) → TakesDead p w y → y.winds_down ≡ w.winds_down → HasJustRoom w → HasJustRoom y
just_takes p w y T still J runs works k =
    let had = J (sym (ap (λ (z : Worker). z.stopped) T.same) ∙ runs) (sym still ∙ works) k in
    let room = T.tells.room k in
    let come = ap (λ (z : Worker). coming z k) T.same in
    omega (arith, had, room, come)

just_passed : (p : groups.Place) (m : ℕ) (w y : Worker) (looks : List Seen) → PassesSending p m w y looks → HasJustRoom w → HasJustRoom y
just_passed p m w y looks S J = (let T = passes_takes p m w y looks S in just_takes p w y T.0 T.1 J)

just_sends : (refused : Bool) (p : groups.Place) (m : ℕ) (a b : Moment) → Sends refused p m a b → HasJustRoom a.worker → HasJustRoom b.worker
just_sends refused p m a b S J = subst HasJustRoom (sym S.box.same) (just_takes p a.worker S.ready S.readies.takes S.readies.works J)

just_winds : (w : Worker) → w.winds_down ≡ true → HasJustRoom w
just_winds w winds runs works k = absurd (let both : true ≡ false = sym winds ∙ works in cc both)

-- nor do names that are doomed
just_dooms : (s : State) (p : groups.Place) (m : ℕ) (v u : View) (w x : Worker) → DoomsIn s p m v u w x → HasJustRoom w → HasJustRoom x
just_dooms s p m v u w x D J = subst HasJustRoom (sym D.same) J

-- nor do copies
just_copies : (t : State) (p : groups.Place) (m : ℕ) (a b : Moment) (refused : Bool) → Copies t refused p m a b → HasJustRoom a.worker → HasJustRoom b.worker
just_copies t p m a b refused C J =
    let R = just_passed p m a.worker C.ready C.before.looked.looks C.sending J in
    ⊎_elim (λ K. subst HasJustRoom (sym K.0.same) R) (λ rest. ⊎_elim (λ L. subst HasJustRoom (sym L.0.same) R) (λ M. subst HasJustRoom (sym M.0.same) (subst HasJustRoom (sym M.0.copies.same) R)) rest) C.copies

-- nor does a search
just_searched : (s : State) (w y : Worker) → BeginsNone s w y → HasJustRoom w → HasJustRoom y
just_searched s w y B J = subst HasJustRoom (sym B.looks.same) J

pub just_did : (s t : State) (refused : Bool) (before : Option Group) (seat : SeatAt) (a b : Moment) → AreApart a.worker.places.items → Did s t refused before seat a b → HasJustRoom a.worker → HasJustRoom b.worker
just_did s t refused before seat a b apart (Did.goes_round calm (inl C)) J = same_leading a.worker b.worker C.same J
just_did s t refused before seat a b apart (Did.goes_round calm (inr R)) J = same_leading a.worker b.worker R.same J
just_did s t refused before seat a b apart (Did.withdraws calm after all W) J = just_withdraws s seat before after a.view b.view a.worker b.worker all W J
just_did s t refused before seat a b apart (Did.writes W) J = just_writes seat.number a b b.worker.stopped refl W J
just_did s t refused before seat a b apart (Did.marks calm M) J = same_leading a.worker b.worker M.same J
just_did s t refused before seat a b apart (Did.fails calm M) J = same_leading a.worker b.worker M.same J
just_did s t refused before seat a b apart (Did.finishes calm all F) J = just_finishes s seat.place seat.number F.slot F.mid b.view a.worker b.worker all apart F.finishes J
just_did s t refused before seat a b apart (Did.posts P plain calm) J = just_posts seat.number a b P J
just_did s t refused before seat a b apart (Did.loses_block L) J = just_stopped b.worker (ap (λ (y : Worker). y.stopped) L.same)
just_did s t refused before seat a b apart (Did.drops calm all D) J = just_stopped b.worker (ap (λ (y : Worker). y.stopped) D.drops.rest ∙ ap (λ (y : Worker). y.stopped) D.drops.puts.lets.rest ∙ D.stopped)
just_did s t refused before seat a b apart (Did.receives calm R) J = just_receives refused seat.place seat.number a b R J
just_did s t refused before seat a b apart (Did.sends calm S) J = just_sends refused seat.place seat.number a b S J
just_did s t refused before seat a b apart (Did.winds calm W) J = just_winds b.worker (ap (λ (y : Worker). y.winds_down) W.same ∙ W.winds)
just_did s t refused before seat a b apart (Did.dooms calm D) J = just_dooms s seat.place seat.number D.mid b.view D.ready b.worker D.dooms (just_passed seat.place seat.number a.worker D.ready D.before.looked.looks D.sending J)
just_did s t refused before seat a b apart (Did.copies C) J = just_copies t seat.place seat.number a b refused C J
just_did s t refused before seat a b apart (Did.loses_copies L) J = just_stopped b.worker (ap (λ (y : Worker). y.stopped) L.lost.same)
just_did s t refused before seat a b apart (Did.clears C) J = just_ends seat.place seat.number C.mid b.view C.ready b.worker C.clearing C.ends (just_passed seat.place seat.number a.worker C.ready C.before.looked.looks C.sending J)
just_did s t refused before seat a b apart (Did.loses_clearing L) J = just_stopped b.worker (ap (λ (y : Worker). y.stopped) L.same)
just_did s t refused before seat a b apart (Did.begins calm B) J = subst HasJustRoom (sym B.begins.same) (just_passed seat.place seat.number a.worker B.ready B.before.looked.looks B.sending J)
just_did s t refused before seat a b apart (Did.locks calm L) J = same_leading L.looked b.worker L.same (just_searched s L.ready L.looked L.begins (just_passed seat.place seat.number a.worker L.ready L.before.looked.looks L.sending J))

pub just_turned : (r : Result Turn Memory) (s t : State) (refused : Bool) (before : Option Group) (seat : SeatAt) (a b : Moment) → AreApart a.worker.places.items → TurnedTo r s t refused before seat a b → HasJustRoom a.worker → HasJustRoom b.worker
just_turned (Ok Moved) s t refused before seat a b apart D J = just_did s t refused before seat a b apart D J
just_turned (Ok Idle) s t refused before seat a b apart I J = (let L = I.1 in same_leading L.looked b.worker L.same (just_searched s L.ready L.looked L.begins (just_passed seat.place seat.number a.worker L.ready L.before.looked.looks L.sending J)))
just_turned (Err memory) s t refused before seat a b apart D J = just_did s t refused before seat a b apart D J

-- A new worker has no room, where its start had none.
pub just_new : (start : CoreStart) (layout : Geometry) (w : Worker) → IsNew start layout w → ((k : ℕ) → room_at start.index k ≡ 0) → HasJustRoom w
just_new start layout w N none runs works k =
    let room : room_at w.index k ≡ 0 = N.index.room k ∙ none k in
    let empty : length (waiting w.queue k) ≡ 0 = ap (λ (q : List Held). length (waiting q k)) N.queue in
    let idle : cond (is_busy w.places.items k) 1 0 ≡ 0 = ap (λ (b : Bool). cond {A = ℕ} b 1 0) (nobody k (is_busy w.places.items k) refl) in
    omega (arith, room, empty, idle)
  where
    nobody : (j : ℕ) (b : Bool) → is_busy w.places.items j ≡ b → is_busy w.places.items j ≡ false
    nobody j false e = e
    nobody j true e = absurd (let at = busy_has w.places.items j e in let both : None ≡ Some j = sym (ap key_in (N.free at.0)) ∙ at.2 in cc both)
