-- Where no request was handed out the turn was made.
use Rattle.std.proofs.Common.{refl, inr}
use Rattle.engine_core.proofs.core_step.step_core.Goals as goal

pub returns-in-None : goal.returns-in-None
returns-in-None g c = inr (
  c.in-None.ensures.open,
  c.in-None.ensures.rest,
  record {
    worker = _;
    board = _;
    region = _;
    from = (refl, refl, refl);
    worker_left = _;
    board_left = _;
    region_left = _;
    made = c.turn.ensures;
    to = (refl, refl, refl);
  },
)
