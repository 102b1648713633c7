use Rattle.region_memory.specs.Steady.{steady_state}
use Rattle.group_board.specs.Journals.{state}
use Rattle.engine_tests.proofs.GateTrials.{is_member}
use Rattle.engine_tests.proofs.counted_worker_tests.counts_of.Goals as goal

pub counts-requires : goal.counts-requires
counts-requires c =
    let a = state c.args.board.now.keeper.me.0 in
    let at = c.requires.seated in
    record {
      stands = is_member (steady_state c.args.region.now) a c.args.worker at;
      fair = at.starts;
      own = c.requires.own a.place at.seated.own;
    }
