-- What a core answers in a window.
use Rattle.std.specs.Prelude.{◌≡◌, ℕ, List, [], ◌++◌, map, Bool, false, IsPermutation}
use Rattle.fs_model.specs.declared.model.Request.{Request}
use Rattle.group_board.specs.Seats.{SeatAt}
use Rattle.engine_laws.specs.WorkerMoves.{asked}
use Rattle.thread_engine.specs.WorkStates.{WorkState, Works, joined_in}
use Rattle.thread_engine.specs.CoreRuns.{fixed_in}

-- From one end of a core to another: the requests that joined are those that it answered, each once, and those that are left. Unless its worker winds down none is.
pub record AnswersOnce (seat : SeatAt) (refused : Bool) (a b : WorkState)
    (works : Works seat refused a b) : Type 0 where
  pub left : List (ℕ × Request)
  pub once : IsPermutation (joined_in seat refused a b works)
      (map asked (fixed_in seat refused a b works) ++ left)
  pub all : b.worker.winds_down ≡ false → left ≡ []
