-- A mailbox is loaded, and received from where it was full.
use Rattle.std.proofs.Common.{false, true, refl}
use Rattle.group_laws.specs.Runs.{Kind}
use Rattle.core_worker.proofs.MailTurns.{one_load, load_then}
use Rattle.core_worker.proofs.worker.Worker.receive_mail.Goals as goal

pub returns-in-None-clause-steps : goal.returns-in-None-clause-steps
returns-in-None-clause-steps g c =
    one_load c.args.from (g.B.Board.seat c.args.board.now).number false (g.B.Board.view c.args.board.now) (g.B.Board.view c.receive.new.self) (g.B.Board.trail c.args.board.now) (g.B.Board.trail c.receive.new.self) c.in-None.ensures.view c.in-None.ensures.made

pub returns-in-Some-clause-steps : goal.returns-in-Some-clause-steps
returns-in-Some-clause-steps g c =
    load_then c.args.from (g.B.Board.seat c.args.board.now).number true (Kind.Receive c.args.from) (g.B.Board.view c.args.board.now) (g.B.Board.view c.receive.new.self) (g.B.Board.trail c.args.board.now) (g.B.Board.trail c.receive.new.self) refl c.in-Some.ensures.made
