-- A worker that differs in its answers alone, over several steps.
use Rattle.std.proofs.Common.{refl, ap, ◌∙◌}
use Rattle.core_worker.specs.declared.worker.Worker.{Worker}
use Rattle.answer_cores.specs.Handing.{Keeps}

pub keeps_itself : (w : Worker) → Keeps w w
keeps_itself w = record {
  rest = refl;
  holds = λ p m v h. h;
  stands = λ s p m v h. h;
  order = λ p m v h. h;
  hands = λ v. refl;
}

pub keeps_on : (a b d : Worker) → Keeps a b → Keeps b d → Keeps a d
keeps_on a b d first next =
    let give : Worker → Worker = λ w. record w { answers = d.answers } in
    record {
      rest = next.rest ∙ ap give first.rest;
      holds = λ p m v h. next.holds p m v (first.holds p m v h);
      stands = λ s p m v h. next.stands s p m v (first.stands s p m v h);
      order = λ p m v h. next.order p m v (first.order p m v h);
      hands = λ v. next.hands v ∙ first.hands v;
    }
