use Rattle.std.proofs.Common.{◌∙◌, ap}
use Rattle.group_board.specs.Journals.{state}
use Rattle.group_tests.specs.LeadTrials.{put_of}
use Rattle.group_tests.proofs.EightTrialLaws.{first_posted, eight_may_post, next_posted}
use Rattle.group_tests.proofs.eight_members.post_all.Goals as goal

pub loop-number-init : goal.loop-number-init
loop-number-init c = first_posted (state c.args.board.now.keeper.me.0) c.requires

pub post_at-requires : goal.post_at-requires
post_at-requires c = eight_may_post (state c.loop-number.board.keeper.me.0) c.loop-number.number c.in_ok-change.change c.loop-number.invariant c.loop-number-test.true (c.in_ok-change.ensures ∙ ap put_of c.key_at.ensures)

pub loop-number-preserved : goal.loop-number-preserved
loop-number-preserved c =
    next_posted (state c.loop-number.board.keeper.me.0) (state c.post_at.new.board.keeper.me.0) c.loop-number.number c.in_ok-change.change c.loop-number.invariant c.loop-number-test.true (c.in_ok-change.ensures ∙ ap put_of c.key_at.ensures)
    c.post_at.ensures.place c.post_at.ensures.view c.post_at.ensures.others
