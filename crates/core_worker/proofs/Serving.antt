-- What beginning a waiting request leaves of the other keys and of the room for answers.
use Rattle.std.proofs.Common.{◌≡◌, ◌≢◌, inl, inr, ⊎_elim, ℕ, zero, suc, ◌+◌, ◌<◌, ◌≤◌, Bool, true, false, cond, List, [], ◌∷◌, length, Option, Some, None, refl, sym, ◌∙◌, ap, subst, arith}
use Rattle.std.specs.Prelude.{is_some, Vec}
use Rattle.std.specs.Global.{Global}
use Rattle.std.proofs.lemmas.Bool.{cases_eq}
use Rattle.fs_model.specs.declared.model.Request.{Request}
use Rattle.fs_model.specs.Cells.{key_of}
use Rattle.conflict_queue.specs.declared.types.Held.{Held}
use Rattle.conflict_queue.specs.Waiting.{waiting, TakesFirst}
use Rattle.core_index.specs.Index.{known_at, room_at}
use Rattle.core_index.specs.Records.{Awaits, last_of, standing_of, standing_at, block_of, is_forgettable}
use Rattle.group_laws.specs.Places as groups
use Rattle.group_laws.specs.MemberViews.{View}
use Rattle.core_worker.specs.declared.types.Place.{Place}
use Rattle.core_worker.specs.declared.types.Place.TheVariants.{Staged}
use Rattle.core_worker.specs.declared.worker.Worker.{Worker}
use Rattle.core_worker.specs.OwnPlaces.{place_at, is_free, is_busy, key_in, Replaces}
use Rattle.core_worker.specs.Refusals.{HasAnswerRoom}
use Rattle.core_worker.specs.Beginning.{HoldsAside, IsStaged, OnlyAnswers}
use Rattle.log_standing.specs.NameCounts.{StandingState}
use Rattle.core_worker.specs.StandingTies.{KnowsDead, most_names}
use Rattle.core_worker.specs.Order.{count_changes, unanswered, MayLeadStopped, InOrder}
use Rattle.core_worker.specs.Serving.{KeepsLine, OthersWait, AllWait}
use Rattle.core_worker.proofs.Posts.{busy_by, busy_has}
use Rattle.core_worker.proofs.Pointers.{free_is}

abbrev pub one_in : Place → ℕ
one_in x = cond (is_free x) 0 1

count_same : (xs ys : List Place) → length ys ≡ length xs → ((t : ℕ) → place_at ys t ≡ place_at xs t) → count_changes ys ≡ count_changes xs
count_same [] [] c h = refl
count_same [] (y ∷ ys) c h = absurd (cc c)
count_same (x ∷ xs) [] c h = absurd (cc c)
count_same (x ∷ xs) (y ∷ ys) c h =
    let here = ap one_in (h 0) in
    let others = count_same xs ys (omega (arith, c)) (λ t. h (suc t)) in
    omega (arith, here, others)

-- how many changes stand in places of which one is another
pub count_with : (xs ys : List Place) (s : ℕ) (x : Place) → Replaces xs ys s x → s < length xs → count_changes ys + one_in (place_at xs s) ≡ count_changes xs + one_in x
count_with [] ys s x R lt = absurd (omega (arith, lt))
count_with (a ∷ xs) [] s x R lt = let c = R.count in absurd (cc c)
count_with (a ∷ xs) (b ∷ ys) zero x R lt =
    let c = R.count in
    let here = ap one_in R.here in
    let others = count_same xs ys (omega (arith, c)) (λ t. R.others (suc t) (λ e. cc e)) in
    omega (arith, here, others)
count_with (a ∷ xs) (b ∷ ys) (suc s) x R lt =
    let c = R.count in
    let first = ap one_in (R.others 0 (λ e. cc e)) in
    let tail : Replaces xs ys s x = record { count = omega (arith, c); here = R.here; others = λ t ne. R.others (suc t) (λ e. ne (omega (arith, e))) } in
    let more = count_with xs ys s x tail (omega (arith, lt)) in
    omega (arith, first, more)

-- an answer
pub line_answered : (w u : Worker) (k : ℕ) → OnlyAnswers w u → ((n : ℕ) → HasAnswerRoom (n + 1) w → HasAnswerRoom n u) → KeepsLine w u k
line_answered w u k e room = record {
  others = λ j ne busy. ap (λ (x : Worker). is_busy x.places.items j) (sym e) ∙ busy;
  counts = λ n had.
      let c : count_changes u.places.items ≡ count_changes w.places.items = ap (λ (x : Worker). count_changes x.places.items) e in
      subst (λ (m : ℕ). HasAnswerRoom (m + n) u) (sym c) (room (count_changes w.places.items + n) (let h = had in omega (arith, h)));
  halts = λ stopped. ap (λ (x : Worker). x.places) e;
}

-- a staged change
pub line_staged : (w u : Worker) (n k : ℕ) (r : Request) → w.stopped ≡ false → u ≡ record w { allocator = u.allocator; places = u.places } → key_of r ≡ k → IsStaged w u n r → KeepsLine w u k
line_staged w u n k r runs e key S = record {
  others = λ j ne busy.
      let at = busy_has u.places.items j busy in
      busy_by w.places.items j at.0 (ap key_in (sym (S.placed.others at.0 (λ same. ne (let both : Some j ≡ Some S.entry.key = sym at.2 ∙ ap (λ t. key_in (place_at u.places.items t)) same ∙ ap key_in S.placed.here in let j_is : j ≡ S.entry.key = cc both in j_is ∙ S.key ∙ key)))) ∙ at.2);
  counts = λ m had.
      let all = count_with w.places.items u.places.items S.slot (Staged n S.entry S.value) S.placed S.lowest.1 in
      let none = ap one_in (free_is (place_at w.places.items S.slot) S.lowest.0) in
      let c : count_changes w.places.items + (m + 1) ≡ count_changes u.places.items + m = omega (arith, all, none) in
      subst (λ (i : ℕ). HasAnswerRoom i u) c (subst (λ (x : Worker). HasAnswerRoom (count_changes w.places.items + (m + 1)) x) (sym e) had);
  halts = λ stopped. absurd (let both : true ≡ false = sym stopped ∙ runs in cc both);
}

-- what is in order but for the answers, what is in hand and the staged changes
pub order_kept : (p : groups.Place) (m : ℕ) (v : View) (w u : Worker) → ((j : ℕ) → known_at u.index j ≡ known_at w.index j) → u.leading ≡ w.leading → u.stopped ≡ w.stopped → u.standing ≡ w.standing → (u.winds_down ≡ false → w.winds_down ≡ false)
    → ((k : ℕ) → groups.owner p k ≡ m → is_busy u.places.items k ≡ true → v.pending k ≡ None → is_forgettable (known_at u.index k) ≡ false)
    → HasAnswerRoom (unanswered u) u → (u.winds_down ≡ false → u.in_hand ≡ None) → InOrder p m v w → InOrder p m v u
order_kept p m v w u known leading stopped standing works recalls answers hand O = record {
  owned = O.owned;
  single = λ q b is. ⊎_elim (λ value. inl (ap block_of (known b.key) ∙ value)) (λ points. inr points) (O.single q b is);
  distinct = λ k q points is. O.distinct k q points (ap block_of (sym (known k)) ∙ is);
  heard = λ k n waits. O.heard k n (subst (λ o. Awaits o (groups.core_of p m) n) (known k) waits);
  told = O.told;
  versions = λ k n s is. subst (λ o. n ≤ last_of o) (sym (known k)) (O.versions k n s (ap (λ o. standing_at (standing_of o) n) (sym (known k)) ∙ is));
  mine = λ k n s is. O.mine k n s (ap (λ o. standing_at (standing_of o) n) (sym (known k)) ∙ is);
  next = O.next;
  spelled = O.spelled;
  recalls = recalls;
  answers = answers;
  hand = hand;
  stops = λ s. subst MayLeadStopped (sym leading) (O.stops (sym stopped ∙ s));
  agrees = O.agrees;
  log = λ r on. subst (KnowsDead m v.kept v.present v.told v.dead) (sym standing) (O.log (sym stopped ∙ r) (works on));
  names = λ r on. subst (λ (st : StandingState). most_names ≤ st.room) (sym standing) (O.names (sym stopped ∙ r) (works on));
}

abbrev pub hands : Option Held → ℕ
hands o = cond (is_some o) 1 0

-- one of the waiting requests of a key is taken out and begun
module _ (p : groups.Place) (m : ℕ) (v : View) (w u : Worker) (q : List Held) (k : ℕ) (h : Held) (T : TakesFirst w.queue q k h) (hand : w.in_hand ≡ None) (O : InOrder p m v w) where
  pub order_begun : HoldsAside p m v w → u ≡ record w { queue = q; allocator = u.allocator; places = u.places; answers = u.answers; index = u.index } → ((j : ℕ) → known_at u.index j ≡ known_at w.index j) → KeepsLine (record w { queue = q }) u k → InOrder p m v u
  order_begun H rest known L = order_kept p m v w u known (ap (λ (x : Worker). x.leading) rest) (ap (λ (x : Worker). x.stopped) rest) (ap (λ (x : Worker). x.standing) rest) (λ on. sym (ap (λ (x : Worker). x.winds_down) rest) ∙ on) recalls answers
      (λ on. ap (λ (x : Worker). x.in_hand) rest ∙ hand) O
    where
      recalls : (j : ℕ) → groups.owner p j ≡ m → is_busy u.places.items j ≡ true → v.pending j ≡ None → is_forgettable (known_at u.index j) ≡ false
      recalls j own busy none = ap is_forgettable (known j) ∙ by w.stopped refl where
        by : (b : Bool) → w.stopped ≡ b → is_forgettable (known_at w.index j) ≡ false
        by false runs = H.remembers runs j own none
        by true stopped = O.recalls j own (ap (λ (ps : Vec Place Global). is_busy ps.items j) (sym (L.halts stopped)) ∙ busy) none

      answers : HasAnswerRoom (unanswered u) u
      answers =
          let had = O.answers in
          let all = T.together in
          let queue : length u.queue ≡ length q = ap (λ (x : Worker). length x.queue) rest in
          let before : hands w.in_hand ≡ 0 = ap hands hand in
          let after : hands u.in_hand ≡ 0 = ap (λ (x : Worker). hands x.in_hand) rest ∙ before in
          let room : HasAnswerRoom (count_changes w.places.items + (length q + 1)) (record w { queue = q }) = omega (arith, had, all, before) in
          let left = L.counts (length q) room in
          omega (arith, left, queue, after)

  in_hand : (x : Held) → InOrder p m v (record w { queue = q; in_hand = Some x; winds_down = true })
  in_hand x = order_kept p m v w (record w { queue = q; in_hand = Some x; winds_down = true }) (λ j. refl) refl refl refl (λ on. absurd (cc on)) O.recalls
      (let had = O.answers in
      let all = T.together in
      let before : hands w.in_hand ≡ 0 = ap hands hand in
      omega (arith, had, all, before)) (λ on. absurd (cc on)) O

  -- it is in hand
  pub order_in_hand : (y : Worker) → y ≡ record w { queue = q } → (x : Held) → InOrder p m v (record y { in_hand = Some x; winds_down = true })
  order_in_hand y same x = subst (λ (z : Worker). InOrder p m v (record z { in_hand = Some x; winds_down = true })) (sym same) (in_hand x)

-- of the other keys nothing changes
pub others_begun : (w u : Worker) (q : List Held) (k : ℕ) (h : Held) → TakesFirst w.queue q k h → u ≡ record w { queue = q; allocator = u.allocator; places = u.places; answers = u.answers; index = u.index } → ((j : ℕ) → j ≢ k → room_at u.index j ≡ room_at w.index j)
    → ((j : ℕ) → is_busy w.places.items j ≡ true → is_busy u.places.items j ≡ true) → KeepsLine (record w { queue = q }) u k → OthersWait w k → OthersWait u k
others_begun w u q k h T rest rooms busy L O = record {
  admitted = λ j ne is.
      let had = O.admitted j ne (L.others j ne is) in
      let wait = ap length (T.others j ne) in
      let queue : length (waiting u.queue j) ≡ length (waiting q j) = ap (λ (x : Worker). length (waiting x.queue j)) rest in
      let room = rooms j ne in
      omega (arith, had, wait, queue, room);
  waits = λ on j ne idle. ap (λ (x : Worker). waiting x.queue j) rest ∙ T.others j ne ∙ O.waits (sym (ap (λ (x : Worker). x.winds_down) rest) ∙ on) j ne (was j idle (is_busy w.places.items j) refl);
} where
  was : (j : ℕ) → is_busy u.places.items j ≡ false → (b : Bool) → is_busy w.places.items j ≡ b → is_busy w.places.items j ≡ false
  was j idle false e = e
  was j idle true e = absurd (let both : true ≡ false = sym (busy j e) ∙ idle in cc both)

-- of the key itself either nothing waits, or it is busy with room for what waits, or the core winds down
pub all_wait : (w : Worker) (k : ℕ) → OthersWait w k → (is_busy w.places.items k ≡ true → length (waiting w.queue k) < room_at w.index k) → (w.winds_down ≡ false → is_busy w.places.items k ≡ false → waiting w.queue k ≡ []) → AllWait w
all_wait w k O admitted waits = record {
  admitted = λ j busy. ⊎_elim (λ same. subst (λ (n : ℕ). length (waiting w.queue n) < room_at w.index n) (sym same) (admitted (ap (is_busy w.places.items) (sym same) ∙ busy))) (λ ne. O.admitted j ne busy) (cases_eq j k);
  waits = λ on j idle. ⊎_elim (λ same. ap (waiting w.queue) same ∙ waits on (ap (is_busy w.places.items) (sym same) ∙ idle)) (λ ne. O.waits on j ne idle) (cases_eq j k);
}
