use Rattle.std.proofs.Common.{◌+◌, ◌∙◌, get_or, arith}
use Rattle.pm_region.specs.Cell.{certain}
use Rattle.region_memory.specs.declared.step.Step.TheVariants.{Store}
use Rattle.region_memory.proofs.Journals.{replay_more}
use Rattle.region_memory.proofs.word_cells.cells_after.Goals as goal

pub loop-step-preserved : goal.loop-step-preserved
loop-step-preserved c =
    let steps = c.args.steps.now in
    let i = c.loop-step.step-index in
    let was = c.loop-step.invariant in
    let all = c.in_ok-take_step.ensures.cells in
    record {
      count = all.count ∙ was.count;
      each = λ k lt. all.each k (let count = was.count in omega arith)
          ∙ replay_more steps i (Store 0 0) (c.args.first + k) (certain (get_or c.args.start.now k 0)) _ c.loop-step-test.true (was.each k lt);
      places = c.in_ok-take_step.ensures.places;
    }
