use Rattle.region_memory.specs.Steady.{steady_state}
use Rattle.group_board.specs.Journals.{state}
use Rattle.group_tests.proofs.EightTrialLaws.{eight_may_write}
use Rattle.group_tests.proofs.eight_members.lead_all.Goals as goal

pub write_at-requires : goal.write_at-requires
write_at-requires c =
    let at = c.requires.region in
    let log = c.requires.log in
    eight_may_write (steady_state c.args.region.now) (state c.gather_at.new.board.keeper.me.0) c.args.log.now c.in-Some.batch at.first at.words at.zeros log.own log.layout log.part log.none c.in-Some.ensures
