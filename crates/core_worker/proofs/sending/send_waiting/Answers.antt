-- A mailbox is loaded, and filled where it was empty.
use Rattle.std.proofs.Common.{true, false, refl}
use Rattle.group_board.specs.Mailing.{notices_of}
use Rattle.group_laws.specs.Runs.{Kind}
use Rattle.core_worker.proofs.MailTurns.{one_load, load_then}
use Rattle.core_worker.proofs.sending.send_waiting.Goals as goal

pub returns-in-Ok-clause-steps : goal.returns-in-Ok-clause-steps
returns-in-Ok-clause-steps g c =
    load_then (g.B.Board.seat c.args.board.now).number c.args.to false (Kind.Send c.args.to (notices_of c.replace-all.result)) (g.B.Board.view c.args.board.now) (g.B.Board.view c.send.new.self) (g.B.Board.trail c.args.board.now) (g.B.Board.trail c.send.new.self) refl c.in-Ok.ensures.made

pub returns-in-Err-clause-steps : goal.returns-in-Err-clause-steps
returns-in-Err-clause-steps g c =
    one_load (g.B.Board.seat c.args.board.now).number c.args.to true (g.B.Board.view c.args.board.now) (g.B.Board.view c.send.new.self) (g.B.Board.trail c.args.board.now) (g.B.Board.trail c.send.new.self) c.in-Err.ensures.view c.in-Err.ensures.made
