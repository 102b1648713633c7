-- What waits for another member is sent.
use Rattle.group_board.specs.Mailing.{notices_of}
use Rattle.core_worker.proofs.OutboxLaws.{may_send}
use Rattle.core_worker.proofs.SentMail.{keeps_sending, lowers_sending}
use Rattle.core_worker.proofs.worker.Worker.send_ready.Goals as goal

pub send_box-requires-clause-may : goal.send_box-requires-clause-may
send_box-requires-clause-may g c n is =
    let seat = g.B.Board.seat c.args.board.now in
    let A = c.requires.holds.mail.each c.args.to n is in
    may_send seat.place seat.number c.args.to (g.B.Board.view c.args.board.now) (notices_of n) c.requires.holds.member c.requires.member c.requires.other A.dead A.gone

pub returns-clause-keeps : goal.returns-clause-keeps
returns-clause-keeps g c s S =
    keeps_sending c.send_box.result (g.B.Board.seat c.args.board.now) s (g.B.Board.whole c.args.board.now) (g.B.Board.whole c.send_box.new.board) c.args.to (g.B.Board.view c.args.board.now) (g.B.Board.view c.send_box.new.board) c.args.self.now c.send_box.new.self
    c.requires.holds S c.requires.order c.requires.runs c.requires.nothing c.requires.other c.send_box.ensures.sent

pub returns-clause-less : goal.returns-clause-less
returns-clause-less g c some =
    lowers_sending c.send_box.result (g.B.Board.whole c.args.board.now) (g.B.Board.whole c.send_box.new.board) (g.B.Board.seat c.args.board.now).number c.args.to (g.B.Board.view c.args.board.now) (g.B.Board.view c.send_box.new.board) c.args.self.now c.send_box.new.self some c.send_box.ensures.sent
