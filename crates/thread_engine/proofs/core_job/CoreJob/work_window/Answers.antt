use Rattle.thread_engine.specs.WorkStates.{sight_by}
use Rattle.thread_engine.proofs.WindowJob.{may_hand_over, works_window}
use Rattle.thread_engine.proofs.core_job.CoreJob.work_window.Goals as goal

pub work-requires : goal.work-requires
work-requires g c = c.requires.awaits.work

pub give_answers-requires : goal.give_answers-requires
give_answers-requires g c =
    may_hand_over g.B.Board.seat (sight_by g.B.Board.view g.B.Board.trail g.B.Board.at) g.P.Region.state (g.G.Gate.may_refuse c.args.gate.now) c.args.answers.now c.every_chain.ensures c.args.self.now c.work.new.self c.work.new.self c.requires c.work.ensures.worked c.work.ensures.ended

pub returns : goal.returns
returns g c =
    works_window g.B.Board.seat (sight_by g.B.Board.view g.B.Board.trail g.B.Board.at) g.P.Region.state (g.G.Gate.may_refuse c.args.gate.now) c.args.answers.now c.every_chain.ensures c.args.self.now c.work.new.self c.give_answers.new.self c.requires c.work.ensures.worked c.work.ensures.ended
    c.give_answers.ensures.rest c.give_answers.ensures.worker c.give_answers.ensures.put
