-- Where cores rest on their way through the windows of a run.
use Rattle.std.proofs.Common.{◌≡◌, inl, inr, ℕ, suc, ◌+◌, ◌*◌, ◌<◌, ◌≤◌, Bool, List, [], ◌++◌, length, take, slice_index_or, sym, ◌∙◌, ap, subst, append-nil, arith}
use Rattle.std.proofs.lemmas.Bool.{cases_lt}
use Rattle.std.proofs.lemmas.List.{take_all, take-append-le}
use Rattle.std.proofs.lemmas.Nat.{mul-le}
use Rattle.fs_model.specs.declared.model.Request.{Request}
use Rattle.pm_region.specs.State.{State}
use Rattle.group_board.specs.Seats.{SeatAt}
use Rattle.core_worker.specs.declared.types.Answer.{Answer}
use Rattle.answer_queue.specs.declared.window_sizes.TheConstants.{WINDOW}
use Rattle.thread_engine.specs.declared.core_job.CoreJob.{CoreJob}
use Rattle.thread_engine.specs.WorkStates.{Sight, WorkState, stands_at}
use Rattle.thread_engine.specs.Between.{RestsWith, RestsEach}
use Rattle.thread_engine.specs.Windows.{dealt_from, dealt_by, AreAtRest, WentOn, AllWentOn, AllRested, EachChanges, Winds}
use Rattle.thread_engine.specs.WindowJobs.{IsAtRest}
use Rattle.thread_engine.specs.Takings.{both_outs}
use Rattle.thread_engine.proofs.WorkRests.{rests_last}
use Rattle.thread_engine.proofs.Deals.{dealt-append}
use Rattle.thread_engine.proofs.Takings.{both_long, outs_at}
use Rattle.thread_engine.proofs.WindowWork.{went_on, went_rests}
use Rattle.thread_engine.proofs.WindingDown.{wound_one}

-- so many windows are within what those and more of them have
pub windows_low : (i n m : ℕ) → i ≤ n → n * WINDOW ≤ m → i * WINDOW ≤ m
windows_low i n m low within = (let less = mul-le i WINDOW n WINDOW low (omega arith) in omega (arith, less, within))

module _ {B P : Type 0} (seat : B → SeatAt) (sight : B → Sight) (state : P → State) (refused : Bool) where
  abbrev Job : Type 0
  Job = CoreJob B P

  abbrev stands : Job → WorkState
  stands x = stands_at sight state x

  -- of one core, which went on
  abbrev Rests : ℕ → (ℕ → List (ℕ × Request)) → (more : List (ℕ × Request)) (outs : List Answer) (x y : Job) → WentOn seat sight state refused more outs x y → Type 0
  Rests windows joined more outs x y G = RestsEach (seat x.seat) refused windows joined (stands x) (stands y) G.works.works

  abbrev GoesResting : ℕ → (ℕ → List (ℕ × Request)) → List (ℕ × Request) → List Answer → Job → Job → Type 0
  GoesResting windows joined more outs x y = (G : WentOn seat sight state refused more outs x y) × Rests windows joined more outs x y G

  goes_on : (windows : ℕ) (joined : ℕ → List (ℕ × Request)) (xs ys : List (ℕ × Request)) (os ps : List Answer) (x y z : Job) (G : WentOn seat sight state refused xs os x y) → Rests windows joined xs os x y G → WentOn seat sight state refused ys ps y z
      → GoesResting windows joined (xs ++ ys) (os ++ ps) x z
  goes_on windows joined xs ys os ps x y z G R H = (
    went_on seat sight state refused xs ys os ps x y z G H,
    (λ i low. went_rests seat sight state refused (joined i) xs ys os ps x y z G H (R i low)),
  )

  carried : (windows : ℕ) (joined : ℕ → List (ℕ × Request)) (xs ys more : List (ℕ × Request)) (os ps outs : List Answer) (x y z : Job) (G : WentOn seat sight state refused xs os x y) → Rests windows joined xs os x y G → WentOn seat sight state refused ys ps y z
      → xs ++ ys ≡ more → os ++ ps ≡ outs → GoesResting windows joined more outs x z
  carried windows joined xs ys more os ps outs x y z G R H e f =
      subst (λ q. GoesResting windows joined q outs x z) e (subst (λ o. GoesResting windows joined (xs ++ ys) o x z) f (goes_on windows joined xs ys os ps x y z G R H))

  -- of all, which worked a window more off
  abbrev AllResting : ℕ → List Request → List (List Answer) → List Job → List Job → Type 0
  AllResting windows xs outs a b = (G : AllWentOn seat sight state refused 0 xs outs a b) × AllRested seat sight state refused windows xs outs a b G

  -- what joined by then is not changed by more
  same_then : (cores c windows : ℕ) (xs ys : List Request) → windows * WINDOW ≤ length xs → (i : ℕ) → i ≤ windows → dealt_by cores c xs i ≡ dealt_by cores c (xs ++ ys) i
  same_then cores c windows xs ys within i low = ap (dealt_from cores c 0) (sym (take-append-le (i * WINDOW) xs ys (windows_low i windows (length xs) low within)))

  pub window_rested : (n windows : ℕ) (xs ys : List Request) (os ps : List (List Answer)) (a b e : List Job) → length xs ≡ n → windows * WINDOW ≤ length xs → AllResting windows xs os a b → AllWentOn seat sight state refused n ys ps b e → AllResting windows (xs ++ ys) (both_outs os ps) a e
  window_rested n windows xs ys os ps a b e long within (D, R) E = (
    record {
      count = E.count ∙ D.count;
      few = both_long (length a) os ps D.few (let same = D.count in let more = E.few in omega (arith, more, same));
      each = λ c d low. (one c d low).0;
    },
    (λ c d low i less. subst (λ j. RestsWith (seat (slice_index_or a c d).seat) refused j (stands (slice_index_or a c d)) (stands (slice_index_or e c d)) (one c d low).0.works.works) (same_then (length a) c windows xs ys within i less) ((one c d low).1 i less)),
  ) where
    one : (c : ℕ) (d : Job) → c < length a → GoesResting windows (dealt_by (length a) c xs) (dealt_from (length a) c 0 (xs ++ ys)) (slice_index_or (both_outs os ps) c []) (slice_index_or a c d) (slice_index_or e c d)
    one c d low =
        let same = D.count in
        let from : n ≡ 0 + length xs = omega (arith, long) in
        let later = subst (λ m. WentOn seat sight state refused (dealt_from m c n ys) (slice_index_or ps c []) (slice_index_or b c d) (slice_index_or e c d)) same (E.each c d (omega (arith, low, same))) in
        carried windows (dealt_by (length a) c xs) (dealt_from (length a) c 0 xs) (dealt_from (length a) c n ys) (dealt_from (length a) c 0 (xs ++ ys)) (slice_index_or os c []) (slice_index_or ps c []) (slice_index_or (both_outs os ps) c [])
        (slice_index_or a c d) (slice_index_or b c d) (slice_index_or e c d) (D.each c d low) (R c d low) later
        (ap (λ m. dealt_from (length a) c 0 xs ++ dealt_from (length a) c m ys) from ∙ sym (dealt-append (length a) c 0 xs ys)) (sym (outs_at os ps c))

  -- and which wind down
  pub wound_rested : (windows : ℕ) (xs : List Request) (outs : List (List Answer)) (a b e : List Job) → EachChanges (Winds seat sight state) b e → AllResting windows xs outs a b → AllResting windows xs outs a e
  wound_rested windows xs outs a b e W (D, R) = (
    record { count = W.count ∙ D.count; few = D.few; each = λ c d low. (one c d low).0 },
    (λ c d low. (one c d low).1),
  ) where
    one : (c : ℕ) (d : Job) → c < length a → GoesResting windows (dealt_by (length a) c xs) (dealt_from (length a) c 0 xs) (slice_index_or outs c []) (slice_index_or a c d) (slice_index_or e c d)
    one c d low = (let same = D.count in
        carried windows (dealt_by (length a) c xs) (dealt_from (length a) c 0 xs) [] (dealt_from (length a) c 0 xs) (slice_index_or outs c []) [] (slice_index_or outs c [])
        (slice_index_or a c d) (slice_index_or b c d) (slice_index_or e c d) (D.each c d low) (R c d low)
        (wound_one seat sight state refused (slice_index_or b c d) (slice_index_or e c d) (W.each c d (omega (arith, low, same))))
        (append-nil (dealt_from (length a) c 0 xs)) (append-nil (slice_index_or outs c [])))

  -- At rest in the end, with all that was dealt.
  module _ (xs : List Request) (outs : List (List Answer)) (a b : List Job) (G : AllWentOn seat sight state refused 0 xs outs a b) (A : AreAtRest seat sight state b) where
    rest_here : (c : ℕ) (d : Job) (low : c < length a) (joined : List (ℕ × Request)) → dealt_from (length a) c 0 xs ≡ joined → RestsWith (seat (slice_index_or a c d).seat) refused joined (stands (slice_index_or a c d)) (stands (slice_index_or b c d)) (G.each c d low).works.works
    rest_here c d low joined is =
        let same = G.count in
        let one = G.each c d low in
        rests_last (seat (slice_index_or a c d).seat) refused joined (stands (slice_index_or a c d)) (stands (slice_index_or b c d)) one.works.works (one.works.joins ∙ is)
        (subst (λ s. IsAtRest s (stands (slice_index_or b c d))) one.seat_is (A.rest c d (omega (arith, low, same))))

    -- a window more
    pub next_rested : (windows : ℕ) → length xs ≡ suc windows * WINDOW → AllRested seat sight state refused windows xs outs a b G → AllRested seat sight state refused (suc windows) xs outs a b G
    next_rested windows long R c d low i less = elim (cases_lt i (suc windows)) [
      | inl lt ↦ R c d low i (omega (arith, lt))
      | inr ge ↦ (let last : i ≡ suc windows = omega (arith, ge, less) in
          rest_here c d low (dealt_by (length a) c xs i) (ap (dealt_from (length a) c 0) (sym (ap (λ n. take (n * WINDOW) xs) last ∙ take_all (suc windows * WINDOW) xs (omega (arith, long))))))
    ]

  -- before the first one
  pub none_rested : (jobs : List Job) (G : AllWentOn seat sight state refused 0 [] [] jobs jobs) → AreAtRest seat sight state jobs → AllRested seat sight state refused 0 [] [] jobs jobs G
  none_rested jobs G A c d low i less = rest_here [] [] jobs jobs G A c d low (dealt_by (length jobs) c [] i) (ap (dealt_from (length jobs) c 0) (sym (take_all (i * WINDOW) [] (omega arith))))
