-- Item 1 of a core that runs.
use Rattle.std.proofs.Common.{◌≡◌, true, false, refl, sym, ◌∙◌}
use Rattle.core_worker.specs.Turning.Did.{goes_round}
use Rattle.core_worker.proofs.Beginnings.{aside_of}
use Rattle.core_worker.proofs.Pointers.{measured}
use Rattle.core_worker.proofs.QuietItems.{round_filled, round_led, round_same}
use Rattle.core_worker.proofs.TurnLaws.{keeps_leading}
use Rattle.core_worker.proofs.worker.Worker.serve_round.Goals as goal

pub room-room-requires-clause-measured : goal.room-room-requires-clause-measured
room-room-requires-clause-measured g c =
    let seat = g.B.Board.seat c.args.board.now in
    measured seat.place seat.number (g.B.Board.view c.args.board.now) c.args.self.now (aside_of seat.place seat.number (g.B.Board.view c.args.board.now) c.args.self.now c.requires.holds)

pub returns-clause-keeps : goal.returns-clause-keeps
returns-clause-keeps g c s S =
    let seat = g.B.Board.seat c.args.board.now in
    let e = c.go_round.ensures in
    keeps_leading seat s (g.B.Board.whole c.args.board.now) (g.B.Board.whole c.go_round.new.board) (g.B.Board.view c.args.board.now) (g.B.Board.view c.go_round.new.board) c.args.self.now c.go_round.new.self
    e.holds e.stands S e.made (round_led _ seat _ _ e.went) (round_same _ seat _ _ e.went)
    (λ stopped. absurd (let both : true ≡ false = sym stopped ∙ c.requires.runs in cc both)) c.requires.order e.rule (round_filled _ seat _ _ e.went)

pub returns-clause-did : goal.returns-clause-did
returns-clause-did g c s refused = goes_round refl c.go_round.ensures.went

pub returns-clause-steps : goal.returns-clause-steps
returns-clause-steps g c = c.go_round.ensures.steps
