-- A core's job in a window, and its pass of the window's queue of answers.
use Rattle.std.specs.Prelude.{◌≡◌, ℕ, ◌<◌, List, [], ◌∷◌, ◌++◌, map, length, slice_index_or, Bool, false, Option, Some, None, option_to_list, IsPermutation}
use Rattle.crossbeam_queue.specs.Passes.{Pass}
use Rattle.pm_region.specs.State.{State}
use Rattle.group_board.specs.Seats.{SeatAt}
use Rattle.core_worker.specs.declared.types.Answer.{Answer}
use Rattle.core_worker.specs.Beginning.{answers_of}
use Rattle.answer_queue.specs.declared.account.Account.{Account}
use Rattle.answer_queue.specs.declared.answer_queue.AnswerQueue.{AnswerQueue}
use Rattle.answer_queue.specs.Accounts.{with_numbers, numbers, AreAmong, AreDistinct}
use Rattle.answer_queue.specs.Queues.{IsOf, account_of}
use Rattle.answer_cores.specs.Passes.{IsDealt, HasPut, numbers_in, all_numbers, all_answers}
use Rattle.thread_engine.specs.declared.core_job.CoreJob.{CoreJob}
use Rattle.thread_engine.specs.WorkStates.{Sight, WorkState, IsAtWork, WorksOn, HasEnded, stands_at}
use Rattle.thread_engine.specs.WorkLaws.{KeepsDoubts}

-- Between windows: the core has ended with memory, and its worker has no answer left.
pub record IsAtRest (seat : SeatAt) (x : WorkState) : Type 0 where
  pub work : IsAtWork seat x
  pub ended : HasEnded x
  pub runs : x.worker.winds_down ≡ false
  pub doubts : KeepsDoubts seat x.view
  pub none : answers_of x.worker ≡ []

-- with no request that waits
abbrev pub without_queue : WorkState → WorkState
without_queue x = record x { queue = [] }

-- what a job's pass has put, and nothing where it has none
abbrev pub put_in : Option (Pass Answer Account) → List Answer
put_in None = []
put_in (Some p) = (account_of p).put

-- the numbers of the requests that wait, core by core
abbrev pub waiting_for : {B P : Type 0} → List (CoreJob B P) → List (List ℕ)
waiting_for jobs = map (λ j. numbers_in j.queue.items) jobs

-- what the passes of jobs have put, core by core
abbrev pub puts_of : {B P : Type 0} → List (CoreJob B P) → List (List Answer)
puts_of jobs = map (λ j. put_in j.pass) jobs

-- the passes that jobs have, in the cores' order
abbrev pub passes_of : {B P : Type 0} → List (CoreJob B P) → List (Pass Answer Account)
passes_of [] = []
passes_of (j ∷ js) = option_to_list j.pass ++ passes_of js

-- It was given a pass for answers to the requests that wait for it, and nothing else changed.
pub record TakesPass {B P : Type 0} (q : AnswerQueue) (old new : CoreJob B P) : Type 0 where
  pub pass : Pass Answer Account
  pub dealt : IsDealt q (numbers_in old.queue.items) pass
  pub is : new ≡ record old { pass = Some pass }

-- Its pass was taken from it, and nothing else changed.
abbrev pub LosesPass : {B P : Type 0} → CoreJob B P → CoreJob B P → Type 0
LosesPass old new = new ≡ record old { pass = None }

-- Requests joined where it was at rest.
pub record Awaits {B P : Type 0} (seat : B → SeatAt) (sight : B → Sight) (state : P → State)
    (x : CoreJob B P) : Type 0 where
  pub work : IsAtWork (seat x.seat) (stands_at sight state x)
  pub rest : IsAtRest (seat x.seat) (without_queue (stands_at sight state x))

-- and it has a pass for answers to them
pub record IsReady {B P : Type 0} (seat : B → SeatAt) (sight : B → Sight) (state : P → State)
    (q : AnswerQueue) (x : CoreJob B P) : Type 0 where
  pub awaits : Awaits seat sight state x
  pub pass : Pass Answer Account
  pub has : x.pass ≡ Some pass
  pub dealt : IsDealt q (numbers_in x.queue.items) pass

-- A chain of moves led it to its end, and it handed these answers over: to requests that waited, each once.
pub record Worked {B P : Type 0} (seat : B → SeatAt) (sight : B → Sight) (state : P → State)
    (refused : Bool) (outs : List Answer) (old new : CoreJob B P) : Type 0 where
  pub seat_is : seat new.seat ≡ seat old.seat
  pub work : IsAtWork (seat old.seat) (stands_at sight state new)
  pub works : WorksOn (seat old.seat) refused [] outs (stands_at sight state old)
      (stands_at sight state new)
  pub ended : HasEnded (stands_at sight state new)
  pub doubts : KeepsDoubts (seat old.seat) (stands_at sight state new).view
  pub none : answers_of new.worker ≡ []
  pub among : AreAmong (numbers outs) (numbers_in old.queue.items)

-- so with its pass
pub record WorksWindow {B P : Type 0} (seat : B → SeatAt) (sight : B → Sight) (state : P → State)
    (refused : Bool) (q : AnswerQueue) (old new : CoreJob B P) : Type 0 where
  pub worked : Worked seat sight state refused (put_in new.pass) old new
  pub pass : Pass Answer Account
  pub has : new.pass ≡ Some pass
  pub put : HasPut q (with_numbers (numbers_in old.queue.items)) (put_in new.pass) pass

-- All did, and this is what they handed over, each answer once and no other, to requests that waited.
pub record AllWorked {B P : Type 0} (seat : B → SeatAt) (sight : B → Sight) (state : P → State)
    (refused : Bool) (old new : List (CoreJob B P)) (taken : List Answer) : Type 0 where
  pub count : length new ≡ length old
  pub outs : List (List Answer)
  pub cores : length outs ≡ length old
  pub each : (c : ℕ) (d : CoreJob B P) → c < length old
      → Worked seat sight state refused (slice_index_or outs c [])
      (slice_index_or old c d) (slice_index_or new c d)
  pub all : IsPermutation (all_answers outs) taken
  pub distinct : AreDistinct (numbers taken)
  pub among : AreAmong (numbers taken) (all_numbers (waiting_for old))

-- it has a pass for its worker's answers
pub record MayHandOver {B P : Type 0} (q : AnswerQueue) (x : CoreJob B P) : Type 0 where
  pub pass : Pass Answer Account
  pub has : x.pass ≡ Some pass
  pub of : IsOf q pass
  pub part : 0 < (account_of pass).parts
  pub may : AreAmong (numbers (answers_of x.worker)) (account_of pass).may

-- and put them
pub record HandedOver {B P : Type 0} (q : AnswerQueue) (old new : CoreJob B P) : Type 0 where
  pub before : Pass Answer Account
  pub pass : Pass Answer Account
  pub had : old.pass ≡ Some before
  pub has : new.pass ≡ Some pass
  pub put : HasPut q (account_of before) (answers_of old.worker) pass
