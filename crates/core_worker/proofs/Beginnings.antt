-- What was done is what beginning a request is.
use Rattle.std.proofs.Common.{◌≡◌, ℕ, ◌+◌, ◌<◌, ◌≤◌, arith, length, length-append, ⊎_elim, List, ◌∷◌, [], ◌++◌, Bool, true, false, Option, Some, None, refl, sym, ◌∙◌, ap, subst}
use Rattle.std.specs.declared.collections.VecDeque.{VecDeque}
use Rattle.std.specs.Global.{Global}
use Rattle.fs_model.specs.declared.model.Request.{Request}
use Rattle.fs_model.specs.declared.model.Reply.{Reply}
use Rattle.fs_model.specs.declared.model.Reply.TheVariants as replies
use Rattle.fs_model.specs.Cells.{key_of, answer_to, is_change}
use Rattle.core_index.specs.Index.{known_at}
use Rattle.core_index.specs.Records.{last_of}
use Rattle.core_worker.specs.declared.types.Answer.{Answer}
use Rattle.core_room.specs.declared.types.Shortage.{Shortage}
use Rattle.core_worker.specs.declared.worker.Worker.{Worker}
use Rattle.pm_region.specs.State.{State}
use Rattle.conflict_queue.specs.declared.types.Held.{Held}
use Rattle.conflict_queue.specs.Waiting.{waiting}
use Rattle.core_index.specs.Index.{all_untold, room_at, LessRoom}
use Rattle.core_index.specs.Records.{is_forgettable}
use Rattle.core_worker.specs.OwnPlaces.{place_at, is_busy, key_in}
use Rattle.core_worker.specs.KeyTies.{KnowsKey}
use Rattle.log_standing.specs.NameCounts.{count_in, count_of}
use Rattle.core_log.specs.declared.types.Room.{Room}
use Rattle.batch_leader.specs.Rounds.{words_taken}
use Rattle.batch_leader.specs.Leading.{Suits, HasSpace}
use Rattle.core_worker.proofs.UnderWay.{told_same}
use Rattle.core_worker.proofs.CleaningKept.{keeps_counts}
use Rattle.core_worker.proofs.Posts.{busy_by, busy_has}
use Rattle.core_worker.proofs.Pointers.{free_is}
use Rattle.std.proofs.lemmas.Bool.{cases_eq}
use Rattle.conflict_queue.specs.Waiting.{AddsLast}
use Rattle.core_worker.specs.StandingTies.{SameNames}
use Rattle.core_worker.proofs.NamesStood.{names_same}
use Rattle.core_worker.specs.Accepting.{IsAsBefore}
use Rattle.group_laws.specs.Places.{Place}
use Rattle.group_laws.specs.MemberViews.{View}
use Rattle.core_worker.specs.declared.types.Leading.{Leading}
use Rattle.core_worker.specs.declared.types.Leading.TheVariants as leads
use Rattle.core_worker.specs.Ties.{Holds, Stands, HasSpaceFor}
use Rattle.core_worker.specs.Supplies.{supply_of, why}
use Rattle.core_worker.specs.Refusals.{reply_to}
use Rattle.core_worker.specs.Answering.{IsSaid}
use Rattle.core_worker.specs.Outbox.{as_told}
use Rattle.core_worker.specs.Beginning.{answer_with, IsAnswered, IsStaged, BeginsBy, BeginsAs, AnswersOrStages, OnlyAnswers, OnlyStages, OnlyBegins, Begins, UsesRoom, HoldsAside}

pub begins_stopped : (Known : Type 0) (w u : Worker) (cell : Option (List ℕ)) (n : ℕ) (r : Request) → w.stopped ≡ true → IsAnswered w u (answer_with n replies.Stopped None) → Begins Known w u cell n r
begins_stopped Known w u cell n r stopped a = subst (λ (b : Bool). BeginsAs Known b w u cell n r) (sym stopped) a

module _ (Known : Type 0) (w u : Worker) (cell : Option (List ℕ)) (n : ℕ) (r : Request) (runs : w.stopped ≡ false) where
  abbrev cause : Option Shortage
  cause = why w.layout (supply_of w) w.allocator (last_of (known_at w.index (key_of r))) cell r

  by_why : (x : Option Shortage) → cause ≡ x → BeginsBy Known x w u cell n r → Begins Known w u cell n r
  by_why x is done = subst (λ (s : Bool). BeginsAs Known s w u cell n r) (sym runs) (subst (λ (y : Option Shortage). BeginsBy Known y w u cell n r) (sym is) done)

  pub begins_refused : (s : Shortage) → cause ≡ Some s → IsAnswered w u (answer_with n (reply_to s) (Some s)) → Begins Known w u cell n r
  begins_refused s why a = by_why (Some s) why a

  pub begins_answered : (a : Reply) → cause ≡ None → is_change r cell ≡ false → IsSaid Known r (answer_to r cell) a → IsAnswered w u (answer_with n a None) → Begins Known w u cell n r
  begins_answered a why change reply said = by_why None why (subst (λ (c : Bool). AnswersOrStages Known c w u cell n r) (sym change) (a, reply, said))

  pub begins_staged : cause ≡ None → is_change r cell ≡ true → IsStaged w u n r → Begins Known w u cell n r
  begins_staged why change staged = by_why None why (subst (λ (c : Bool). AnswersOrStages Known c w u cell n r) (sym change) staged)

-- an answer more changes none of the ties
abbrev pub with_answers : Worker → VecDeque Answer Global → Worker
with_answers w a = record w { answers = a }

pub answered_holds : (p : Place) (m : ℕ) (v : View) (w u : Worker) → u ≡ with_answers w u.answers → HoldsAside p m v w → HoldsAside p m v u
answered_holds p m v w u e H = subst (λ (x : Worker). HoldsAside p m v x) (sym e) (record {
  place = H.place;
  member = H.member;
  core = H.core;
  layout = H.layout;
  log_layout = H.log_layout;
  log_part = H.log_part;
  sets = H.sets;
  allocator_layout = H.allocator_layout;
  allocator_part = H.allocator_part;
  spelled = H.spelled;
  eight = H.eight;
  placed = H.placed;
  apart = H.apart;
  pending = H.pending;
  admitted = H.admitted;
  keys = H.keys;
  mail = H.mail;
  blocks = H.blocks;
  waits = H.waits;
  leads = H.leads;
  space = λ r. by w.leading (H.space r);
  broken = H.broken;
  lost = H.lost;
  flight = H.flight;
  cleaning = H.cleaning;
  remembers = H.remembers;
  chunks = H.chunks;
}) where
  by : (l : Leading) → HasSpaceFor (record w { queue = [] }) l → HasSpaceFor (record w { queue = []; answers = u.answers }) l
  by (leads.Nothing b) h = tt
  by (leads.Collecting c) h = h
  by (leads.Batch b) h = h
  by (leads.Persisted x) h = tt
  by (leads.Failed x) h = tt
  by leads.Between h = tt

pub answered_stands : (s : State) (p : Place) (m : ℕ) (v : View) (w u : Worker) → u ≡ with_answers w u.answers → Stands s p m v w → Stands s p m v u
answered_stands s p m v w u e S = subst (λ (x : Worker). Stands s p m v x) (sym e) (record { lies = S.lies; licensed = S.licensed; landed = S.landed; log = S.log; free = S.free; due = S.due; cut = S.cut; names = S.names })

pub answered : (w u : Worker) (k : ℕ) (a : Answer) → OnlyAnswers w u → LessRoom w.index u.index k → u.answers.items ≡ w.answers.items ++ a ∷ [] → IsAnswered w u a
answered w u k a e less items = record {
  same = record { layout = ap (λ (x : Worker). x.layout) e; core = ap (λ (x : Worker). x.core) e; log = ap (λ (x : Worker). x.log) e; leading = ap (λ (x : Worker). x.leading) e; cleaning = ap (λ (x : Worker). x.cleaning) e; stopped = ap (λ (x : Worker). x.stopped) e; winds_down = ap (λ (x : Worker). x.winds_down) e };
  answers = items;
  places = ap (λ (x : Worker). x.places.items) e;
  allocator = ap (λ (x : Worker). x.allocator) e;
  records = less.records;
}

pub staged_busy : (w u : Worker) (n k : ℕ) (r : Request) → key_of r ≡ k → IsStaged w u n r → is_busy u.places.items k ≡ true
staged_busy w u n k r is s = busy_by u.places.items k s.slot (ap key_in s.placed.here ∙ ap Some (s.key ∙ is))

room_by : (w : Worker) (q : List Held) (l : Leading) → HasSpaceFor w l → HasSpaceFor (record w { queue = q }) l
room_by w q (leads.Nothing b) h = tt
room_by w q (leads.Collecting c) h = h
room_by w q (leads.Batch b) h = h
room_by w q (leads.Persisted x) h = tt
room_by w q (leads.Failed x) h = tt
room_by w q leads.Between h = tt

-- the ties with nothing waiting, and back
pub aside_of : (p : Place) (m : ℕ) (v : View) (w : Worker) → Holds p m v w → HoldsAside p m v w
aside_of p m v w H = record {
  place = H.place;
  member = H.member;
  core = H.core;
  layout = H.layout;
  log_layout = H.log_layout;
  log_part = H.log_part;
  sets = H.sets;
  allocator_layout = H.allocator_layout;
  allocator_part = H.allocator_part;
  spelled = H.spelled;
  eight = H.eight;
  placed = H.placed;
  apart = H.apart;
  pending = H.pending;
  admitted = λ k busy. (let a = H.admitted k busy in omega (arith, a));
  keys = H.keys;
  mail = H.mail;
  blocks = H.blocks;
  waits = λ on k idle. refl;
  leads = H.leads;
  space = λ r. room_by w [] w.leading (H.space r);
  broken = H.broken;
  lost = H.lost;
  flight = H.flight;
  cleaning = H.cleaning;
  remembers = H.remembers;
  chunks = H.chunks;
}

pub of_aside : (p : Place) (m : ℕ) (v : View) (w : Worker) → HoldsAside p m v w → ((k : ℕ) → is_busy w.places.items k ≡ true → length (waiting w.queue k) < room_at w.index k) → (w.winds_down ≡ false → (k : ℕ) → is_busy w.places.items k ≡ false → waiting w.queue k ≡ []) → Holds p m v w
of_aside p m v w H admitted waits = record {
  place = H.place;
  member = H.member;
  core = H.core;
  layout = H.layout;
  log_layout = H.log_layout;
  log_part = H.log_part;
  sets = H.sets;
  allocator_layout = H.allocator_layout;
  allocator_part = H.allocator_part;
  spelled = H.spelled;
  eight = H.eight;
  placed = H.placed;
  apart = H.apart;
  pending = H.pending;
  admitted = admitted;
  keys = H.keys;
  mail = H.mail;
  blocks = H.blocks;
  waits = waits;
  leads = H.leads;
  space = λ r. room_by (record w { queue = [] }) w.queue w.leading (H.space r);
  broken = H.broken;
  lost = H.lost;
  flight = H.flight;
  cleaning = H.cleaning;
  remembers = H.remembers;
  chunks = H.chunks;
}

-- more room for records and answers
pub prepared_holds : (p : Place) (m : ℕ) (v : View) (w u : Worker) → u ≡ record w { answers = u.answers; index = u.index; standing = u.standing } → ((k : ℕ) → known_at u.index k ≡ known_at w.index k) → ((k : ℕ) → is_busy w.places.items k ≡ true → room_at w.index k ≤ room_at u.index k) → ((k n : ℕ) → count_of u.standing k n ≡ count_of w.standing k n) → u.standing.tally ≡ w.standing.tally → HoldsAside p m v w → HoldsAside p m v u
prepared_holds p m v w u e same more counts tally H = subst (λ (x : Worker). HoldsAside p m v x) (sym e) (record {
  place = H.place;
  member = H.member;
  core = H.core;
  layout = H.layout;
  log_layout = H.log_layout;
  log_part = H.log_part;
  sets = H.sets;
  allocator_layout = H.allocator_layout;
  allocator_part = H.allocator_part;
  spelled = λ k r known. H.spelled k r (sym (same k) ∙ known);
  eight = H.eight;
  placed = H.placed;
  apart = H.apart;
  pending = H.pending;
  admitted = λ k busy. (let a = H.admitted k busy in let b = more k busy in omega (arith, a, b));
  keys = λ k own which. subst (KnowsKey p (as_told w v) k) (sym (same k)) (H.keys k own which);
  mail = H.mail;
  blocks = H.blocks;
  waits = λ on k idle. refl;
  leads = H.leads;
  space = λ r. by w.leading (H.space r);
  broken = H.broken;
  lost = H.lost;
  flight = H.flight;
  cleaning = keeps_counts p m v (record w { queue = [] }) u.standing counts H.cleaning;
  remembers = λ r k own idle. ap is_forgettable (same k) ∙ H.remembers r k own idle;
  chunks = H.chunks;
}) where
  by : (l : Leading) → HasSpaceFor (record w { queue = [] }) l → HasSpaceFor (record w { queue = []; answers = u.answers; index = u.index; standing = u.standing }) l
  by (leads.Nothing b) h = tt
  by (leads.Collecting c) h = subst (λ (r : Room). Suits r c) (sym (told_same w u.standing tally)) h
  by (leads.Batch b) h = subst (λ (r : Room). HasSpace r b.fresh b.own_lines (words_taken b.changes.taken.items)) (sym (told_same w u.standing tally)) h
  by (leads.Persisted x) h = tt
  by (leads.Failed x) h = tt
  by leads.Between h = tt

pub prepared_stands : (s : State) (p : Place) (m : ℕ) (v : View) (w u : Worker) → u ≡ record w { answers = u.answers; index = u.index; standing = u.standing } → SameNames w.standing u.standing → Stands s p m v w → Stands s p m v u
prepared_stands s p m v w u e same S = subst (λ (x : Worker). Stands s p m v x) (sym e) (record { lies = S.lies; licensed = S.licensed; landed = S.landed; log = S.log; free = S.free; due = S.due; cut = S.cut; names = λ r on telling. names_same s m v.kept v.present v.told v.dead w.log w.standing u.standing w.clearing w.cleaning same (S.names r on telling) })

pub staged_keeps : (w u : Worker) (n : ℕ) (r : Request) → IsStaged w u n r → (k : ℕ) → is_busy w.places.items k ≡ true → is_busy u.places.items k ≡ true
staged_keeps w u n r s k busy =
    let at = busy_has w.places.items k busy in
    let free = free_is (place_at w.places.items s.slot) s.lowest.0 in
    busy_by u.places.items k at.0 (ap key_in (s.placed.others at.0 (λ same. (let both : None ≡ Some k = sym (ap key_in free) ∙ ap (λ n. key_in (place_at w.places.items n)) (sym same) ∙ at.2 in cc both))) ∙ at.2)

pub answered_busy : (w u : Worker) → OnlyAnswers w u → (k : ℕ) → is_busy w.places.items k ≡ true → is_busy u.places.items k ≡ true
answered_busy w u e k busy = ap (λ (x : Worker). is_busy x.places.items k) e ∙ busy

-- a request of a key that isn't busy was answered
with_standing : (w u : Worker) → OnlyAnswers w u → u ≡ record w { answers = u.answers; index = u.index; standing = u.standing }
with_standing w u e = e ∙ (λ i. record w { answers = u.answers; index = u.index; standing = sym (ap (λ (x : Worker). x.standing) e) i })

pub answered_aside : (p : Place) (m : ℕ) (v : View) (w u : Worker) (k : ℕ) → OnlyAnswers w u → LessRoom w.index u.index k → is_busy w.places.items k ≡ false → HoldsAside p m v w → HoldsAside p m v u
answered_aside p m v w u k e less idle H = prepared_holds p m v w u (with_standing w u e) less.records
    (λ j busy. ⊎_elim (λ same. absurd (let both : true ≡ false = sym busy ∙ ap (is_busy w.places.items) same ∙ idle in cc both)) (λ ne. (let r = less.others j ne in omega (arith, r))) (cases_eq j k)) (λ i n. ap (λ (x : Worker). count_of x.standing i n) e) (ap (λ (x : Worker). x.standing.tally) e) H

pub answered_standing : (s : State) (p : Place) (m : ℕ) (v : View) (w u : Worker) → OnlyAnswers w u → Stands s p m v w → Stands s p m v u
answered_standing s p m v w u e S = subst (λ (x : Worker). Stands s p m v x) (sym e) (record { lies = S.lies; licensed = S.licensed; landed = S.landed; log = S.log; free = S.free; due = S.due; cut = S.cut; names = S.names })

-- what becomes of the room for its record
pub answered_uses : (w u : Worker) (k : ℕ) → OnlyAnswers w u → LessRoom w.index u.index k → is_busy w.places.items k ≡ false → UsesRoom w u k
answered_uses w u k e less idle = record {
  staged = λ busy. absurd (let both : true ≡ false = sym busy ∙ ap (λ (x : Worker). is_busy x.places.items k) e ∙ idle in cc both);
  answered = λ still. less.here;
  others = less.others;
  records = less.records;
  untold = less.untold;
}

pub staged_uses : (w u : Worker) (n k : ℕ) (r : Request) → OnlyStages w u → IsStaged w u n r → key_of r ≡ k → UsesRoom w u k
staged_uses w u n k r only S is = record {
  staged = λ busy. ap (λ (x : Worker). room_at x.index k) only;
  answered = λ idle. absurd (let both : true ≡ false = sym (staged_busy w u n k r is S) ∙ idle in cc both);
  others = λ j ne. ap (λ (x : Worker). room_at x.index j) only;
  records = λ j. ap (λ (x : Worker). known_at x.index j) only;
  untold = let same : all_untold u.index ≡ all_untold w.index = ap (λ (x : Worker). all_untold x.index) only in omega (arith, same);
}

-- the ties after memory was taken for a request
pub before_holds : (p : Place) (m : ℕ) (v : View) (w u : Worker) → IsAsBefore w u → Holds p m v w → Holds p m v u
before_holds p m v w u B H =
    let x = record w { answers = u.answers; index = u.index; standing = u.standing } in
    subst (λ (y : Worker). Holds p m v y) (sym B.rest) (of_aside p m v (record w { answers = u.answers; index = u.index; standing = u.standing }) (prepared_holds p m v w (record w { answers = u.answers; index = u.index; standing = u.standing }) refl B.records (λ k busy. B.room k) (λ k n. ap count_in (B.names.copies k n)) B.names.tally (aside_of p m v w H))
    (λ k busy. (let a = H.admitted k busy in let b = B.room k in omega (arith, a, b))) H.waits)

-- after a request is held
pub held_holds : (p : Place) (m : ℕ) (v : View) (w u : Worker) (q : List Held) (h : Held) → IsAsBefore w u → room_at u.index (key_of h.request) ≡ room_at w.index (key_of h.request) + 1 → is_busy w.places.items (key_of h.request) ≡ true → AddsLast u.queue q h → Holds p m v w → Holds p m v (record u { queue = q })
held_holds p m v w u q h B more busy adds H =
    let x = record w { answers = u.answers; index = u.index; standing = u.standing } in
    let A : AddsLast w.queue q h = subst (λ (y : Worker). AddsLast y.queue q h) B.rest adds in
    subst (λ (y : Worker). Holds p m v (record y { queue = q })) (sym B.rest) (of_aside p m v (record w { answers = u.answers; index = u.index; standing = u.standing; queue = q }) (prepared_holds p m v w (record w { answers = u.answers; index = u.index; standing = u.standing }) refl B.records (λ k busy. B.room k) (λ k n. ap count_in (B.names.copies k n)) B.names.tally (aside_of p m v w H))
    (λ k is. ⊎_elim
    (λ same. (let a = H.admitted k is in let r = more in let key = A.key in
    let grown : length (waiting q k) ≡ length (waiting w.queue k) + 1 = ap (λ n. length (waiting q n)) same ∙ ap length key ∙ length-append (waiting w.queue (key_of h.request)) (h ∷ []) ∙ ap (λ n. length (waiting w.queue n) + 1) (sym same) in
    let room : room_at u.index k ≡ room_at w.index k + 1 = ap (room_at u.index) same ∙ r ∙ ap (λ n. room_at w.index n + 1) (sym same) in omega (arith, a, grown, room)))
    (λ ne. (let a = H.admitted k is in let b = B.room k in let l = ap length (A.others k ne) in omega (arith, a, b, l)))
    (cases_eq k (key_of h.request)))
    (λ on k idle. A.others k (λ same. (let both : true ≡ false = sym busy ∙ ap (is_busy w.places.items) (sym same) ∙ idle in cc both)) ∙ H.waits on k idle))

-- after a request is begun
pub begun_holds : (p : Place) (m : ℕ) (v : View) (u b : Worker) → Holds p m v u → u.winds_down ≡ false → OnlyBegins u b → ((k : ℕ) → is_busy u.places.items k ≡ true → room_at b.index k ≡ room_at u.index k) → HoldsAside p m v b → ((k : ℕ) → is_busy u.places.items k ≡ true → is_busy b.places.items k ≡ true) → Holds p m v b
begun_holds p m v u b H works rest room A keeps =
    let queue : b.queue ≡ u.queue = ap (λ (x : Worker). x.queue) rest in
    of_aside p m v b A
    (λ k busy. by_was k (is_busy u.places.items k) refl (A.admitted k busy) queue)
    (λ on k idle. ap (λ (q : List Held). waiting q k) queue ∙ H.waits works k (was_idle k (is_busy u.places.items k) refl idle))
  where
    by_was : (k : ℕ) (x : Bool) → is_busy u.places.items k ≡ x → 0 < room_at b.index k → b.queue ≡ u.queue → length (waiting b.queue k) < room_at b.index k
    by_was k true e some queue = (let a = H.admitted k e in let l = ap (λ (q : List Held). length (waiting q k)) queue in let same = room k e in omega (arith, a, l, same))
    by_was k false e some queue = (let l = ap (λ (q : List Held). length (waiting q k)) queue ∙ ap length (H.waits works k e) in omega (arith, l, some))

    was_idle : (k : ℕ) (x : Bool) → is_busy u.places.items k ≡ x → is_busy b.places.items k ≡ false → is_busy u.places.items k ≡ false
    was_idle k true e idle = absurd (let both : true ≡ false = sym (keeps k e) ∙ idle in cc both)
    was_idle k false e idle = e
