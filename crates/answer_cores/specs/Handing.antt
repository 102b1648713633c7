-- A worker that handed its answers over.
use Rattle.std.specs.Prelude.{◌≡◌, ℕ, []}
use Rattle.pm_region.specs.State.{State}
use Rattle.group_laws.specs.Places.{Place}
use Rattle.group_laws.specs.MemberViews.{View}
use Rattle.core_worker.specs.declared.worker.Worker.{Worker}
use Rattle.core_worker.specs.Ties.{Holds, Stands}
use Rattle.core_worker.specs.Order.{InOrder}
use Rattle.core_worker.specs.WorkerMoves.{hands_of}
use Rattle.core_worker.specs.Beginning.{answers_of}

-- It differs in its answers alone, and what tied it to its member, its view and the region still does.
pub record Keeps (old new : Worker) : Type 0 where
  pub rest : new ≡ record old { answers = new.answers }
  pub holds : (p : Place) (m : ℕ) (v : View) → Holds p m v old → Holds p m v new
  pub stands : (s : State) (p : Place) (m : ℕ) (v : View) → Stands s p m v old → Stands s p m v new
  pub order : (p : Place) (m : ℕ) (v : View) → InOrder p m v old → InOrder p m v new
  pub hands : (v : View) → hands_of v new ≡ hands_of v old

-- it has no answers left, and is else as it was
pub record HandsOver (old new : Worker) : Type 0 where
  pub none : answers_of new ≡ []
  pub keeps : Keeps old new
