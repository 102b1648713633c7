-- The end of a cleaning: the chunk is Free, its doomed names have vanished, and the allocator has it again.
use Rattle.std.specs.Prelude.{◌≡◌, ◌≢◌, ℕ, ◌<◌, true, false, is_some, Some, None}
use Rattle.pm_region.specs.State.{State, IsTelling}
use Rattle.core_log.specs.Log.{LogState, tail_of}
use Rattle.lazy_alloc.specs.Sets.{Sets, GivesChunk, chunk_class, chunk_is_free}
use Rattle.licence.specs.Writes.{Begins}
use Rattle.log_standing.specs.NameCounts.{StandingState}
use Rattle.log_cleaner.specs.Clearing.{ClearingState, HasCleared, IsReady}
use Rattle.log_cleaner.specs.Copying.{IsUpToDate}
use Rattle.log_cleaner.specs.ImagesBeside.{AgreesIn}
use Rattle.log_cleaner.specs.Vanishing.{MayGo, NoneElse}
use Rattle.group_laws.specs.Places.{Place, members}
use Rattle.group_laws.specs.MemberViews.{View}
use Rattle.group_board.specs.Seats.{SeatAt}
use Rattle.group_board.specs.Views.{after_retire, TidiedIn}

-- A chunk may be given up: it is one of the log's that is not written to, and not free; where the region tells, all of it that lives is copied. The rest of its names is doomed, and no chunk besides the log's has an entry.
pub record MayGiveUp (s : State) (seat : SeatAt) (v : View) (log : LogState) (st : StandingState)
    (a : Sets) (c : ClearingState) : Type 0 where
  pub begins : Begins s seat.place seat.number v log
  pub member : seat.number < members seat.place
  pub has : is_some (tail_of log.chunks c.chunk) ≡ true
  pub closed : log.opened ≢ Some c.chunk
  pub ready : IsTelling s → IsReady s log st c
  pub standing : IsTelling s → IsUpToDate s log st
  pub agrees : IsTelling s → AgreesIn s log
  pub may : MayGo v c.doomed
  pub others : NoneElse s log
  pub layout : a.layout ≡ log.layout
  pub taken : chunk_is_free a c.chunk ≡ false
  pub uncut : chunk_class a c.chunk ≡ None

-- The chunk was given up: log and standing have it no more, the allocator has it, the view has retired the doomed names, and no chunk besides the log's has an entry.
pub record GaveUp (s t : State) (p : Place) (m : ℕ) (v u : View) (log log' : LogState) (a b : Sets)
    (old new : StandingState) (c : ClearingState) : Type 0 where
  pub cleared : HasCleared s t log log' old new c
  pub gives : GivesChunk a b c.chunk
  pub tidied : TidiedIn p m (after_retire p m c.doomed v) u
  pub others : NoneElse t log'
