-- A value was written to its block while the region counted a fault: the core stops, as after a write that failed.
use Rattle.std.proofs.Common.{ℕ, true}
use Rattle.pm_region.specs.State.{State}
use Rattle.lazy_alloc.specs.Sets.{Sets}
use Rattle.lazy_alloc.specs.Written.{PartLies}
use Rattle.group_laws.specs.Places.{Place}
use Rattle.group_laws.specs.MemberViews.{View}
use Rattle.core_worker.specs.declared.worker.Worker.{Worker}
use Rattle.core_worker.specs.Ties.{Stands}

pub stands_counted : (t : State) (p : Place) (m : ℕ) (v : View) (w : Worker) (a : Sets) → PartLies t.frame a → Stands t p m v (record w { stopped = true }) → Stands t p m v (record w { allocator = a; stopped = true })
stands_counted t p m v w a lies S = record {
  lies = lies;
  licensed = S.licensed;
  landed = S.landed;
  log = λ r. absurd (cc r);
  free = λ r. absurd (cc r);
  due = λ r. absurd (cc r);
  cut = λ r. absurd (cc r);
  names = λ r. absurd (cc r);
}
