use Rattle.std.proofs.Common.{◌≡◌, ℕ, length}
use Rattle.pm_region.specs.State.{State}
use Rattle.group_laws.specs.Places.{Place}
use Rattle.group_laws.specs.State.{Group}
use Rattle.group_laws.specs.MemberViews.{View}
use Rattle.engine_core.specs.Answers.{HavePlaces, stored}
use Rattle.engine_core.specs.Calls.{is_open}
use Rattle.engine_core.proofs.engine_step.collect.Given as goal

abbrev pub invariant-loop-answer : goal.invariant-loop-answer
invariant-loop-answer g l =
    let W = g.W.CoreWorker in
    record {
      places : HavePlaces (length l.kept.items) (W.answers l.worker);
      kept : stored (W.answers l.worker) l.stamp l.kept.items ≡ stored (W.answers l.fn.worker) l.stamp l.fn.kept.items;
      like : W.alike l.fn.worker l.worker;
      hands : (v : View) → W.hands v l.worker ≡ W.hands v l.fn.worker;
      stands : (p : Place) (m : ℕ) (s : State) (v : View) → W.stands p m s v l.fn.worker → W.stands p m s v l.worker;
      fair : (a : Group) (m : ℕ) → W.fair a m l.fn.worker → W.fair a m l.worker;
      ready : is_open W.room W.leads l.worker ≡ is_open W.room W.leads l.fn.worker;
      winds : W.winds l.worker ≡ W.winds l.fn.worker;
      left : W.left l.worker ≡ W.left l.fn.worker;
    }

abbrev pub decreases-loop-answer : goal.decreases-loop-answer
decreases-loop-answer g l = length (g.W.CoreWorker.answers l.worker)
