-- What accepting leaves of what is kept in order.
use Rattle.std.proofs.Common.{◌≡◌, inl, inr, ⊎_elim, ℕ, suc, ◌+◌, ◌≤◌, ◌<◌, Bool, true, false, cond, List, [], ◌∷◌, length, Option, None, refl, sym, ◌∙◌, ap, subst, arith}
use Rattle.std.specs.Prelude.{is_some}
use Rattle.std.specs.VecDeque.{deque_len, deque_capacity}
use Rattle.std.specs.declared.collections.VecDeque.{VecDeque}
use Rattle.std.specs.Global.{Global}
use Rattle.core_worker.specs.declared.types.Answer.{Answer}
use Rattle.conflict_queue.specs.declared.types.Held.{Held}
use Rattle.core_index.specs.Index.{known_at}
use Rattle.core_index.specs.Records.{Awaits, last_of, standing_of, standing_at, block_of, is_forgettable}
use Rattle.group_laws.specs.Places.{Place, core_of, owner}
use Rattle.group_laws.specs.MemberViews.{View}
use Rattle.core_worker.specs.declared.types.Place as places
use Rattle.core_worker.specs.declared.worker.Worker.{Worker}
use Rattle.core_worker.specs.OwnPlaces.{is_free, is_busy}
use Rattle.core_worker.specs.Refusals.{HasAnswerRoom}
use Rattle.core_worker.specs.Order.{count_changes, unanswered, MayLeadStopped, InOrder}
use Rattle.core_worker.specs.Ties.{Holds}
use Rattle.core_worker.specs.Beginning.{OnlyBegins}
use Rattle.core_worker.specs.Serving.{KeepsLine}
use Rattle.core_worker.specs.StandingTies.{SameNames}
use Rattle.core_worker.proofs.NamesKnown.{dead_same}
use Rattle.core_worker.specs.Accepting.{IsAsBefore}

pub count_few : (ps : List places.Place) → count_changes ps ≤ length ps
count_few [] = omega arith
count_few (x ∷ xs) = by (is_free x) (count_few xs) where
  by : (b : Bool) → count_changes xs ≤ length xs → cond b 0 1 + count_changes xs ≤ suc (length xs)
  by true le = omega (arith, le)
  by false le = omega (arith, le)

-- the records of the index, what is led and whether it stopped are the same
pub order_accepted : (p : Place) (m : ℕ) (v : View) (w x : Worker) → Holds p m v w → ((j : ℕ) → known_at x.index j ≡ known_at w.index j) → x.leading ≡ w.leading → x.stopped ≡ w.stopped → x.in_hand ≡ w.in_hand → x.winds_down ≡ w.winds_down → SameNames w.standing x.standing
    → (w.stopped ≡ true → (j : ℕ) → is_busy x.places.items j ≡ true → is_busy w.places.items j ≡ true) → HasAnswerRoom (unanswered x) x → InOrder p m v w → InOrder p m v x
order_accepted p m v w x H known leading stopped hand winds same halts answers O = record {
  owned = O.owned;
  single = λ q b is. ⊎_elim (λ value. inl (ap block_of (known b.key) ∙ value)) (λ points. inr points) (O.single q b is);
  distinct = λ k q points is. O.distinct k q points (ap block_of (sym (known k)) ∙ is);
  heard = λ k n waits. O.heard k n (subst (λ o. Awaits o (core_of p m) n) (known k) waits);
  told = O.told;
  versions = λ k n s is. subst (λ o. n ≤ last_of o) (sym (known k)) (O.versions k n s (ap (λ o. standing_at (standing_of o) n) (sym (known k)) ∙ is));
  mine = λ k n s is. O.mine k n s (ap (λ o. standing_at (standing_of o) n) (sym (known k)) ∙ is);
  next = O.next;
  spelled = O.spelled;
  recalls = λ k own busy none. ap is_forgettable (known k) ∙ by w.stopped k own busy none refl;
  answers = answers;
  hand = λ on. hand ∙ O.hand (sym winds ∙ on);
  stops = λ s. subst MayLeadStopped (sym leading) (O.stops (sym stopped ∙ s));
  log = λ r on. dead_same m v.kept v.present v.told v.dead w.standing x.standing same (O.log (sym stopped ∙ r) (sym winds ∙ on));
  names = λ r on. (let had = O.names (sym stopped ∙ r) (sym winds ∙ on) in let more = same.room in omega (arith, had, more));
  agrees = O.agrees;
} where
  by : (b : Bool) (k : ℕ) → owner p k ≡ m → is_busy x.places.items k ≡ true → v.pending k ≡ None → w.stopped ≡ b → is_forgettable (known_at w.index k) ≡ false
  by false k own busy none e = H.remembers e k own none
  by true k own busy none e = O.recalls k own (halts e k busy) none

-- memory was taken, or was not there
pub order_before : (p : Place) (m : ℕ) (v : View) (w u : Worker) → IsAsBefore w u → Holds p m v w → InOrder p m v w → InOrder p m v u
order_before p m v w u B H O = order_accepted p m v w u H B.records (ap (λ (y : Worker). y.leading) B.rest) (ap (λ (y : Worker). y.stopped) B.rest) (ap (λ (y : Worker). y.in_hand) B.rest) (ap (λ (y : Worker). y.winds_down) B.rest) B.names
    (λ s j busy. ap (λ (y : Worker). is_busy y.places.items j) (sym B.rest) ∙ busy)
    (subst (λ n. HasAnswerRoom n u) (sym (ap (λ (y : Worker). unanswered y) B.rest)) (B.answer_room (unanswered w) O.answers)) O

abbrev hands : Option Held → ℕ
hands o = cond (is_some o) 1 0

-- the request is held
pub order_held : (p : Place) (m : ℕ) (v : View) (w u : Worker) (q : List Held) → IsAsBefore w u → HasAnswerRoom 73 u → w.in_hand ≡ None → length u.queue < 64 → length q ≡ length u.queue + 1 → Holds p m v w → InOrder p m v w → InOrder p m v (record u { queue = q })
order_held p m v w u q B room hand few more H O =
    order_accepted p m v w (record u { queue = q }) H B.records (ap (λ (y : Worker). y.leading) B.rest) (ap (λ (y : Worker). y.stopped) B.rest) (ap (λ (y : Worker). y.in_hand) B.rest) (ap (λ (y : Worker). y.winds_down) B.rest) B.names
    (λ s j busy. ap (λ (y : Worker). is_busy y.places.items j) (sym B.rest) ∙ busy)
    (let places : count_changes u.places.items ≤ length u.places.items = count_few u.places.items in
    let eight : length u.places.items ≡ 8 = ap (λ (y : Worker). length y.places.items) B.rest ∙ H.eight in
    let none : hands u.in_hand ≡ 0 = ap (λ (y : Worker). hands y.in_hand) B.rest ∙ ap hands hand in
    omega (arith, places, eight, none, few, more, room)) O

-- it is begun
pub order_begun_now : (p : Place) (m : ℕ) (v : View) (w u b : Worker) (k : ℕ) → IsAsBefore w u → HasAnswerRoom 73 u → w.in_hand ≡ None → length u.queue < 64 → OnlyBegins u b → ((j : ℕ) → known_at b.index j ≡ known_at u.index j) → KeepsLine u b k → ((n : ℕ) → HasAnswerRoom (n + 1) u → HasAnswerRoom n b) → Holds p m v w → Holds p m v b → InOrder p m v w → InOrder p m v b
order_begun_now p m v w u b k B room hand few only known line less H N O =
    order_accepted p m v w b H (λ j. known j ∙ B.records j) (ap (λ (y : Worker). y.leading) only ∙ ap (λ (y : Worker). y.leading) B.rest) (ap (λ (y : Worker). y.stopped) only ∙ ap (λ (y : Worker). y.stopped) B.rest) (ap (λ (y : Worker). y.in_hand) only ∙ ap (λ (y : Worker). y.in_hand) B.rest) (ap (λ (y : Worker). y.winds_down) only ∙ ap (λ (y : Worker). y.winds_down) B.rest)
    (subst (SameNames w.standing) (sym (ap (λ (y : Worker). y.standing) only)) B.names)
    (λ s j busy. ap (λ (y : Worker). is_busy y.places.items j) (sym B.rest) ∙ ap (λ ps. is_busy ps.items j) (sym (line.halts (ap (λ (y : Worker). y.stopped) B.rest ∙ s))) ∙ busy)
    (let places : count_changes b.places.items ≤ length b.places.items = count_few b.places.items in
    let eight : length b.places.items ≡ 8 = N.eight in
    let none : hands b.in_hand ≡ 0 = ap (λ (y : Worker). hands y.in_hand) only ∙ ap (λ (y : Worker). hands y.in_hand) B.rest ∙ ap hands hand in
    let queue : length b.queue ≡ length u.queue = ap (λ (y : Worker). length y.queue) only in
    let left : HasAnswerRoom 72 b = less 72 (omega (arith, room)) in
    omega (arith, places, eight, none, few, queue, left)) O

-- an answer was given out
pub given_order : (p : Place) (m : ℕ) (v : View) (w : Worker) (a : VecDeque Answer Global) → deque_len a ≤ deque_len w.answers → deque_capacity a ≡ deque_capacity w.answers → InOrder p m v w → InOrder p m v (record w { answers = a })
given_order p m v w a fewer same O = record { owned = O.owned; single = O.single; distinct = O.distinct; heard = O.heard; told = O.told; versions = O.versions; mine = O.mine; next = O.next; spelled = O.spelled; recalls = O.recalls; answers = (let room = O.answers in omega (arith, room, fewer, same)); hand = O.hand; stops = O.stops; agrees = O.agrees; log = O.log; names = O.names }

-- it winds down
pub wound_order : (p : Place) (m : ℕ) (v : View) (w : Worker) → InOrder p m v w → InOrder p m v (record w { winds_down = true })
wound_order p m v w O = record { owned = O.owned; single = O.single; distinct = O.distinct; heard = O.heard; told = O.told; versions = O.versions; mine = O.mine; next = O.next; spelled = O.spelled; recalls = O.recalls; answers = O.answers; hand = λ on. absurd (cc on); stops = O.stops; agrees = O.agrees; log = λ r on. absurd (cc on); names = λ r on. absurd (cc on) }
