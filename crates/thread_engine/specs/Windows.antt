-- The requests of a run, dealt window by window to the cores that own their keys, and worked off.
use Rattle.std.specs.Prelude.{◌≡◌, ℕ, ◌+◌, ◌*◌, ◌%◌, ◌<◌, ◌≤◌, ◌==◌, List, [], ◌++◌, map, take, length, filter, slice_index_or, Bool, true, false, Option}
use Rattle.std.specs.List.{enumerate_from}
use Rattle.fs_model.specs.declared.model.Request.{Request}
use Rattle.fs_model.specs.declared.model.Reply.{Reply}
use Rattle.fs_model.specs.Cells.{key_of}
use Rattle.pm_region.specs.State.{State}
use Rattle.group_laws.specs.Places.{owner}
use Rattle.group_board.specs.Seats.{SeatAt}
use Rattle.thread_engine.specs.declared.core_job.CoreJob.{CoreJob}
use Rattle.core_worker.specs.declared.types.Answer.{Answer}
use Rattle.core_worker.specs.Beginning.{answers_of}
use Rattle.answer_queue.specs.declared.window_sizes.TheConstants.{WINDOW}
use Rattle.engine_core.specs.declared.types.Stamped.{Stamped}
use Rattle.engine_core.specs.Reports.{reply_in}
use Rattle.thread_engine.specs.declared.windows.Course.{Course}
use Rattle.thread_engine.specs.WorkStates.{Sight, IsAtWork, WorksOn, HasEnded, stands_at}
use Rattle.thread_engine.specs.WindowJobs.{IsAtRest}
use Rattle.thread_engine.specs.declared.run_notes.RunNotes.{RunNotes}
use Rattle.thread_engine.specs.Collected.{blanks}
use Rattle.thread_engine.specs.Takings.{TakenAs, TakenIn}
use Rattle.thread_engine.specs.Noted.{IsNoted}
use Rattle.thread_engine.specs.Outlets.{HandsOut}
use Rattle.thread_engine.specs.Between.{RestsEach}

-- of some requests, which are numbered from n, those for one of so many cores
abbrev pub dealt_from : ℕ → ℕ → ℕ → List Request → List (ℕ × Request)
dealt_from cores c n xs = filter (λ x. (key_of x.1 % cores) == c) (enumerate_from n xs)

-- As many as before, and each changed so.
pub record EachChanges {X : Type 0} (R : X → X → Type 0) (old new : List X) : Type 0 where
  pub count : length new ≡ length old
  pub each : (i : ℕ) (d : X) → i < length old → R (slice_index_or old i d) (slice_index_or new i d)

-- These requests joined those that wait for the core, and nothing else changed.
pub record IsDealt {B P : Type 0} (more : List (ℕ × Request)) (old new : CoreJob B P) : Type 0 where
  pub seat : new.seat ≡ old.seat
  pub piece : new.piece ≡ old.piece
  pub worker : new.worker ≡ old.worker
  pub queue : new.queue.items ≡ old.queue.items ++ more

-- Each core was dealt the requests of its keys among these, which are numbered from n.
pub record AreDealt {B P : Type 0} (n : ℕ) (xs : List Request)
    (old new : List (CoreJob B P)) : Type 0 where
  pub count : length new ≡ length old
  pub each : (c : ℕ) (d : CoreJob B P) → c < length old
      → IsDealt (dealt_from (length old) c n xs) (slice_index_or old c d) (slice_index_or new c d)

-- The first of the requests that were to come were dealt, numbered from n, and none from number m on.
pub record DealsSome {B P : Type 0} (n m : ℕ) (left : List Request)
    (old new : List (CoreJob B P)) : Type 0 where
  pub dealt : List Request
  pub rest : List Request
  pub split : left ≡ dealt ++ rest
  pub within : n + length dealt ≤ m
  pub deals : AreDealt n dealt old new

-- The requests before number m were, and the others are still to come.
pub record DealsTo {B P : Type 0} (n m : ℕ) (left more : List Request)
    (old new : List (CoreJob B P)) : Type 0 where
  pub dealt : List Request
  pub split : left ≡ dealt ++ more
  pub end : n + length dealt ≡ m
  pub deals : AreDealt n dealt old new

-- the seat's keys are those of one of so many cores
abbrev pub OwnsKeys : ℕ → ℕ → SeatAt → Type 0
OwnsKeys cores c seat = (k : ℕ) → (k % cores) ≡ c → owner seat.place k ≡ seat.number

-- each job is one of its core, which is at rest
pub record AreAtRest {B P : Type 0} (seat : B → SeatAt) (sight : B → Sight) (state : P → State)
    (jobs : List (CoreJob B P)) : Type 0 where
  pub owns : (c : ℕ) (d : CoreJob B P) → c < length jobs
      → OwnsKeys (length jobs) c (seat (slice_index_or jobs c d).seat)
  pub rest : (c : ℕ) (d : CoreJob B P) → c < length jobs
      → IsAtRest (seat (slice_index_or jobs c d).seat)
      (stands_at sight state (slice_index_or jobs c d))

-- A job so far: these requests joined, these answers were handed over, and its core is at work.
pub record WentOn {B P : Type 0} (seat : B → SeatAt) (sight : B → Sight) (state : P → State)
    (refused : Bool) (more : List (ℕ × Request)) (outs : List Answer)
    (old new : CoreJob B P) : Type 0 where
  pub seat_is : seat new.seat ≡ seat old.seat
  pub work : IsAtWork (seat old.seat) (stands_at sight state new)
  pub works : WorksOn (seat old.seat) refused more outs (stands_at sight state old)
      (stands_at sight state new)

-- All jobs so far: each was dealt the requests of its core's keys among these, which are numbered from n, and handed its answers over.
pub record AllWentOn {B P : Type 0} (seat : B → SeatAt) (sight : B → Sight) (state : P → State)
    (refused : Bool) (n : ℕ) (xs : List Request) (outs : List (List Answer))
    (old new : List (CoreJob B P)) : Type 0 where
  pub count : length new ≡ length old
  pub few : length outs ≤ length old
  pub each : (c : ℕ) (d : CoreJob B P) → c < length old
      → WentOn seat sight state refused (dealt_from (length old) c n xs) (slice_index_or outs c [])
      (slice_index_or old c d) (slice_index_or new c d)

-- the requests of a core's keys in the first i windows
abbrev pub dealt_by : ℕ → ℕ → List Request → ℕ → List (ℕ × Request)
dealt_by cores c xs i = dealt_from cores c 0 (take (i * WINDOW) xs)

-- behind each of the first so many windows each core rested, with just the requests of its keys by then
abbrev pub AllRested : {B P : Type 0} (seat : B → SeatAt) (sight : B → Sight) (state : P → State)
    (refused : Bool) (windows : ℕ) (xs : List Request) (outs : List (List Answer))
    (old new : List (CoreJob B P)) → AllWentOn seat sight state refused 0 xs outs old new → Type 0
AllRested {B} {P} seat sight state refused windows xs outs old new went = (c : ℕ)
    (d : CoreJob B P) (low : c < length old)
    → RestsEach (seat (slice_index_or old c d).seat) refused windows (dealt_by (length old) c xs)
    (stands_at sight state (slice_index_or old c d)) (stands_at sight state (slice_index_or new c d))
    (went.each c d low).works.works

-- all cores have ended
abbrev pub HaveEnded : {B P : Type 0} → (B → Sight) → (P → State) → List (CoreJob B P) → Type 0
HaveEnded {B} {P} sight state jobs = (c : ℕ) (d : CoreJob B P) → c < length jobs
    → HasEnded (stands_at sight state (slice_index_or jobs c d))

-- no worker has an answer left
abbrev pub HaveGiven : {B P : Type 0} → List (CoreJob B P) → Type 0
HaveGiven {B} {P} jobs = (c : ℕ) (d : CoreJob B P) → c < length jobs
    → answers_of (slice_index_or jobs c d).worker ≡ []

-- no worker winds down
abbrev pub HaveMemory : {B P : Type 0} → List (CoreJob B P) → Type 0
HaveMemory {B} {P} jobs = (c : ℕ) (d : CoreJob B P) → c < length jobs
    → (slice_index_or jobs c d).worker.winds_down ≡ false

-- all workers wind down
abbrev pub WindDown : {B P : Type 0} → List (CoreJob B P) → Type 0
WindDown {B} {P} jobs = (c : ℕ) (d : CoreJob B P) → c < length jobs
    → (slice_index_or jobs c d).worker.winds_down ≡ true

-- Its worker was told to wind down. Nothing else changed, and its core is at work.
pub record Winds {B P : Type 0} (seat : B → SeatAt) (sight : B → Sight) (state : P → State)
    (old new : CoreJob B P) : Type 0 where
  pub winds : new ≡ record old { worker = record old.worker { winds_down = true } }
  pub work : IsAtWork (seat old.seat) (stands_at sight state new)

-- The first of the requests that were to come were dealt, numbered from n, and worked off to the cores' ends. All answers were handed over and taken, and are in the window's places by their numbers, each below m.
pub record WorksOffSome {B P : Type 0} (seat : B → SeatAt) (sight : B → Sight) (state : P → State)
    (refused : Bool) (n m : ℕ) (left : List Request) (old new : List (CoreJob B P))
    (window : List (Option Stamped)) : Type 0 where
  pub dealt : List Request
  pub rest : List Request
  pub split : left ≡ dealt ++ rest
  pub outs : List (List Answer)
  pub went : AllWentOn seat sight state refused n dealt outs old new
  pub ended : HaveEnded sight state new
  pub none : HaveGiven new
  pub taken : TakenIn n m outs window

-- Those before number m were, with memory, and the others are still to come.
pub record WorksOffTo {B P : Type 0} (seat : B → SeatAt) (sight : B → Sight) (state : P → State)
    (refused : Bool) (n m : ℕ) (left more : List Request) (old new : List (CoreJob B P))
    (window : List (Option Stamped)) : Type 0 where
  pub dealt : List Request
  pub split : left ≡ dealt ++ more
  pub end : n + length dealt ≡ m
  pub outs : List (List Answer)
  pub went : AllWentOn seat sight state refused n dealt outs old new
  pub rest : AreAtRest seat sight state new
  pub taken : TakenIn n m outs window

-- The first of a run's requests were dealt and worked off to the cores' ends; where there was memory, all of them, and else every worker winds down. Behind each of the first so many windows every core rested. All answers were handed over and taken, each once and no other, and are kept by number.
pub record WorksThrough {B P : Type 0} (seat : B → SeatAt) (sight : B → Sight) (state : P → State)
    (refused : Bool) (given : List Request) (windows : ℕ) (all : Bool) (old new : List (CoreJob B P))
    (kept kept' : List (Option Stamped)) : Type 0 where
  pub dealt : List Request
  pub rest : List Request
  pub split : given ≡ dealt ++ rest
  pub outs : List (List Answer)
  pub went : AllWentOn seat sight state refused 0 dealt outs old new
  pub within : windows * WINDOW ≤ length dealt
  pub rested : AllRested seat sight state refused windows dealt outs old new went
  pub ended : HaveEnded sight state new
  pub none : HaveGiven new
  pub taken : TakenAs 0 0 (length given) outs kept kept'
  pub whole : all ≡ true → rest ≡ []
  pub memory : all ≡ true → HaveMemory new
  pub wound : all ≡ false → WindDown new

-- The first of these requests were begun, window by window, and this was done to them, by how many windows before the last one were handed over. Of their answers, each with a place by number, there are the notes. Their replies were handed to an outlet, each window's behind its window. All requests were begun unless it did not take a window's replies: then nothing was begun behind that window.
pub record InWindows {T : Type 0} (takes : State → T → List Reply → Bool → State → T → Type 0)
    (left : List Request) (x : Course)
    (Did : ℕ → List Request → (places kept : List (Option Stamped)) → Type 0)
    (notes : RunNotes) (s : State) (old : T) (t : State) (new : T) : Type 0 where
  pub given : List Request
  pub more : List Request
  pub split : left ≡ given ++ more
  pub whole : x.heard ≡ true → more ≡ []
  pub kept : List (Option Stamped)
  pub noted : IsNoted kept notes
  pub hands : HandsOut takes x.all x.heard (map reply_in kept) s old t new
  pub did : Did (length hands.windows) given (blanks (length given)) kept
