-- What the engine of a replay shows that has just been opened.
use Rattle.pm_region.specs.State.{State}
use Rattle.core_worker.specs.declared.worker.Worker.{Worker}
use Rattle.core_worker.specs.Beginning.{answers_of}
use Rattle.core_worker.specs.Left.{fair}
use Rattle.core_worker.specs.WorkerMoves.{hands_of}
use Rattle.engine_laws.specs.Stands.{Origin, Stands}
use Rattle.engine_core.specs.Calls.{NoneWinds}
use Rattle.engine_core.specs.Working.{IsMember, may_take, leads}
use Rattle.group_engine.specs.declared.engine.Engine.{Engine}
use Rattle.group_engine.specs.Runs.{RunState, ShowsRun}

-- at this state of a run, with the region's state, and no worker winds down
abbrev pub ShowsOpened : State → Engine Worker → RunState Worker → Type 0
ShowsOpened s x e = (o : Origin) × Stands o e.engine
    × ShowsRun hands_of answers_of IsMember fair may_take leads (λ q. q.items) s x.layout
    x.workers.items x.boards.items x.backlogs.items x.answers.items e
    × NoneWinds (λ (w : Worker). w.winds_down) x.workers.items

abbrev pub IsOpenedOn : State → Engine Worker → Type 0
IsOpenedOn s x = (e : RunState Worker) × ShowsOpened s x e
