-- The names that vanish with a cleaned chunk are doomed, of the parts of a worker.
use Rattle.std.specs.Prelude.{◌≡◌, ◌≤◌, ◌<◌, Bool, true, false, ℕ, [], Some, is_some, length, vec_capacity}
use Rattle.pm_region.specs.State.{State, IsTelling}
use Rattle.core_log.specs.Log.{LogState, StandsIn, tail_of}
use Rattle.core_log.specs.Walking.{entries_in}
use Rattle.log_standing.specs.NameCounts.{StandingState, is_told}
use Rattle.log_cleaner.specs.Clearing.{ClearingState, AreLone, AreNoted, IsFresh, IsGathered}
use Rattle.log_cleaner.specs.declared.types.Victim.{Victim}
use Rattle.group_laws.specs.Places as groups
use Rattle.group_laws.specs.MemberViews.{View}
use Rattle.group_board.specs.Seats.{SeatAt}
use Rattle.group_board.specs.Views.{after_doom}
use Rattle.core_worker.specs.declared.types.Cleaning.TheVariants.{Copying, Doomed}
use Rattle.core_worker.specs.declared.worker.Worker.{Worker}
use Rattle.core_worker.specs.LogNames.{AreOwnOf}
use Rattle.core_worker.specs.Supplies.{under_way}
use Rattle.core_worker.specs.Ties.{LeadsNothing}

-- The names of a chunk of the log may be doomed: there are places for all of them, each name that was told dead is dead by the view, and none is in flight.
pub record MayDoom (s : State) (seat : SeatAt) (v : View) (log : LogState) (st : StandingState)
    (c : ClearingState) : Type 0 where
  pub stands : StandsIn s log
  pub has : is_some (tail_of log.chunks c.chunk) ≡ true
  pub fresh : IsFresh c
  pub room : IsTelling s → length (entries_in s log c.chunk) ≤ c.room
  pub member : seat.number < groups.members seat.place
  pub told : (k n : ℕ) → is_told st k n ≡ true → v.dead k n ≡ true
  pub idle : v.flying ≡ []

-- They were noted, and those were doomed that were told dead and stand there alone: exactly these, where the region tells.
pub record HasDoomed (s : State) (log : LogState) (st : StandingState) (old new : ClearingState)
    (v u : View) : Type 0 where
  pub view : u ≡ after_doom new.doomed v
  pub gathered : IsTelling s → IsGathered st (entries_in s log old.chunk) new
  pub lone : AreLone st new.doomed
  pub noted : AreNoted new
  pub few : length new.doomed ≤ old.room
  pub chunk : new.chunk ≡ old.chunk

-- Of a chunk of which nothing is left to be copied the names were noted, and those were doomed that were told dead and stand there alone: exactly these, where the region tells. The own ones of the doomed are in hand.
pub record DoomsIn (s : State) (p : groups.Place) (m : ℕ) (v u : View) (w x : Worker) :
    Type 0 where
  pub runs : w.stopped ≡ false
  pub works : w.winds_down ≡ false
  pub idle : LeadsNothing w
  pub victim : Victim
  pub first : Bool
  pub way : under_way w ≡ Copying victim first
  pub copied : victim.entries ≡ 0
  pub old : ClearingState
  pub was : w.clearing ≡ Some old
  pub now : ClearingState
  pub is : x.clearing ≡ Some now
  pub chunk : now.chunk ≡ victim.chunk
  pub lone : AreLone w.standing now.doomed
  pub noted : AreNoted now
  pub few : length now.doomed ≤ old.room
  pub gathered : IsTelling s → IsGathered w.standing (entries_in s w.log now.chunk) now
  pub own : AreOwnOf p m now.doomed x.own_gone.items
  pub places : vec_capacity w.own_gone ≤ vec_capacity x.own_gone
  pub view : u ≡ after_doom now.doomed v
  pub same : x ≡ record w {
    cleaning = Doomed victim.chunk;
    clearing = x.clearing;
    own_gone = x.own_gone;
  }
