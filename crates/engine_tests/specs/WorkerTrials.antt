-- What the helpers of the tests give.
use Rattle.std.specs.Prelude.{◌≡◌, ℕ, ◌%◌, true, false}
use Rattle.pm_region.specs.State.{State}
use Rattle.group_laws.specs.Places.{Place, owner}
use Rattle.group_laws.specs.State.{Group}
use Rattle.group_laws.specs.MemberViews.{View, view_of}
use Rattle.core_worker.specs.declared.worker.Worker.{Worker}
use Rattle.core_worker.specs.Accepting.{HasTie}
use Rattle.core_worker.specs.Left.{StartsFirst}
use Rattle.core_worker.specs.Order.{InOrder}
use Rattle.core_worker.specs.Status.{has_room, is_leading}
use Rattle.core_worker.specs.Supplies.{HasKeptRoom}
use Rattle.core_worker.specs.Ties.{Holds, Stands}

-- the worker of a core of eight may accept a request for any of its keys
pub record MayAccept (s : State) (core : ℕ) (w : Worker) : Type 0 where
  pub tied : (k : ℕ) → k % 8 ≡ core → HasTie s w k
  pub room : has_room w ≡ true
  pub free : is_leading w.leading ≡ false
  pub works : w.winds_down ≡ false

-- the worker of core 5 of eight may make a turn as that member, whose keys are the core's
pub record IsSeated (s : State) (p : Place) (m : ℕ) (v : View) (w : Worker) : Type 0 where
  pub holds : Holds p m v w
  pub stands : Stands s p m v w
  pub order : InOrder p m v w
  pub own : (k : ℕ) → k % 8 ≡ 5 → owner p k ≡ m

-- so it may as member 1 of its group
pub record IsAtBoard (s : State) (g : Group) (w : Worker) : Type 0 where
  pub seated : IsSeated s g.place 1 (view_of g 1) w
  pub rule : HasKeptRoom w
  pub starts : StartsFirst w
