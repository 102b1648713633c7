use Rattle.std.proofs.Common.{sym, ◌∙◌, arith}
use Rattle.region_memory.specs.Steady.{steady_state}
use Rattle.engine_tests.proofs.WorkerTrials.{may_accept}
use Rattle.engine_tests.proofs.worker_tests.opened.Goals as goal

pub returns : goal.returns
returns c =
    may_accept (steady_state c.args.region.now) c.in_ok-found.found c.args.core c.swap_remove-start.result c.swap_remove-start.result c.in_ok-worker.worker
    c.requires.first (sym c.words.ensures ∙ c.if-words-ne16896.false) c.requires.certain
    c.in_ok-found.ensures.made (c.in_ok-found.ensures.told c.requires.tells) (c.in_ok-found.ensures.stands c.requires.certain)
    (sym c.cores.ensures ∙ c.if-cores-ne8.false) (let low = c.if-core-ge8.false in omega (arith, low)) c.swap_remove-start.ensures.value
    c.in_ok-worker.ensures.new c.in_ok-worker.ensures.holds c.in_ok-worker.ensures.stands c.in_ok-worker.ensures.order
