-- What waits for a member is sent, or the turn goes on with a cleaning or the lock.
use Rattle.std.proofs.Common.{◌≡◌, inr, true, sym, ◌∙◌, ap, subst}
use Rattle.group_board.specs.Seats.{SeatAt}
use Rattle.batch_leader.proofs.Clients.{turn_of_loads, turn_of_one, turn_after_loads}
use Rattle.core_worker.specs.declared.worker.Worker.{Worker}
use Rattle.core_worker.specs.Left.{HasOffer, Measures}
use Rattle.core_worker.specs.Mails.{PassesMail}
use Rattle.core_worker.specs.Readying.{PassesSending, StaysTiedFrom}
use Rattle.core_worker.specs.Resting.{TriedIf, TriedAfter}
use Rattle.core_worker.specs.Turning.{MayServe, KeepsTurn, Tells, TurnedTo, at_entry}
use Rattle.core_worker.proofs.MailTurns.{passes_more}
use Rattle.core_worker.proofs.SendTurns.{none_sent, over_sent, readied_free, steps_none, steps_sent, tied_may, was_none, was_sent}
use Rattle.core_worker.proofs.SentTurns.{awake_before, full_later, goes_on, if_idle_to, none_low, sends_did, sends_low, sends_starts, short_low, short_starts, told_later, tried_looked, winds_did, works_on}
use Rattle.core_worker.proofs.worker.Worker.serve_sending.Goals as goal

pub returns-then-sent-clause-serves : goal.returns-then-sent-clause-serves
returns-then-sent-clause-serves g c passes =
    let seat = g.B.Board.seat c.args.board.now in
    let s = g.R.Region.state c.args.region.now in
    let w0 = g.B.Board.whole c.args.board.now in
    let w1 = g.B.Board.whole c.send_first.new.board in
    let v0 = g.B.Board.view c.args.board.now in
    let v1 = g.B.Board.view c.send_first.new.board in
    let w = c.args.self.now in
    let x = c.send_first.new.self in
    let e = c.in-Ok.ensures in
    let N = was_sent c.in-Ok.sent seat.place seat.number w0 w1 v0 v1 w x c.if-sent.true e.sends in
    record {
      seat = c.send_first.ensures.seat;
      keeps = over_sent c.in-Ok.sent (KeepsTurn seat s s w0 w1 v0 v1 w x) c.if-sent.true (e.keeps s c.requires.may.tied.stands);
      memory = tt;
      awake = tt;
      starts = sends_starts seat.place seat.number w0 w1 v0 v1 w x c.requires.may.nothing N;
      works = ap (λ (z : Worker). z.winds_down) N.sends.box.same ∙ N.readies.works;
      steps = turn_of_one passes s _ _ _ _ _ _ (steps_sent c.in-Ok.sent _ _ _ _ c.if-sent.true e.steps);
    }

pub returns-then-sent-clause-turned : goal.returns-then-sent-clause-turned
returns-then-sent-clause-turned g c refused before v post tells told =
    let seat = g.B.Board.seat c.args.board.now in
    sends_did (g.R.Region.state c.args.region.now) refused before (g.B.Board.whole c.args.board.now) (g.B.Board.whole c.send_first.new.board) (g.B.Board.seat c.args.board.now) v (g.B.Board.view c.args.board.now) (g.B.Board.view c.send_first.new.board) c.args.self.now c.send_first.new.self
    c.requires.runs c.requires.works post tells.0 told (was_sent c.in-Ok.sent seat.place seat.number (g.B.Board.whole c.args.board.now) (g.B.Board.whole c.send_first.new.board) (g.B.Board.view c.args.board.now) (g.B.Board.view c.send_first.new.board) c.args.self.now c.send_first.new.self c.if-sent.true c.in-Ok.ensures.sends)

pub returns-then-sent-clause-less : goal.returns-then-sent-clause-less
returns-then-sent-clause-less g c offer =
    let seat = g.B.Board.seat c.args.board.now in
    sends_low seat.place seat.number (g.B.Board.whole c.args.board.now) (g.B.Board.whole c.send_first.new.board) (g.B.Board.view c.args.board.now) (g.B.Board.view c.send_first.new.board) c.args.self.now c.send_first.new.self (was_sent c.in-Ok.sent seat.place seat.number (g.B.Board.whole c.args.board.now) (g.B.Board.whole c.send_first.new.board) (g.B.Board.view c.args.board.now) (g.B.Board.view c.send_first.new.board) c.args.self.now c.send_first.new.self c.if-sent.true c.in-Ok.ensures.sends)

pub returns-in-Err-clause-serves : goal.returns-in-Err-clause-serves
returns-in-Err-clause-serves g c passes =
    let seat = g.B.Board.seat c.args.board.now in
    let s = g.R.Region.state c.args.region.now in
    let e = c.in-Err.ensures in
    record {
      seat = c.send_first.ensures.seat;
      keeps = e.keeps s c.requires.may.tied.stands;
      memory = e.sends.winds;
      awake = c.requires.works;
      starts = short_starts seat.place seat.number (g.B.Board.whole c.args.board.now) (g.B.Board.whole c.send_first.new.board) (g.B.Board.view c.args.board.now) (g.B.Board.view c.send_first.new.board) c.args.self.now c.send_first.new.self c.requires.may.nothing e.sends;
      works = tt;
      steps = turn_of_loads passes s s _ _ _ _ _ _ e.steps;
    }

pub returns-in-Err-clause-turned : goal.returns-in-Err-clause-turned
returns-in-Err-clause-turned g c refused before v post tells told =
    winds_did (g.R.Region.state c.args.region.now) refused before (g.B.Board.whole c.args.board.now) (g.B.Board.whole c.send_first.new.board) (g.B.Board.seat c.args.board.now) v (g.B.Board.view c.args.board.now) (g.B.Board.view c.send_first.new.board) c.args.self.now c.send_first.new.self
    c.requires.runs c.requires.works post tells.0 told c.in-Err.ensures.sends

pub returns-in-Err-clause-less : goal.returns-in-Err-clause-less
returns-in-Err-clause-less g c offer =
    let seat = g.B.Board.seat c.args.board.now in
    short_low seat.place seat.number (g.B.Board.whole c.args.board.now) (g.B.Board.whole c.send_first.new.board) (g.B.Board.view c.args.board.now) (g.B.Board.view c.send_first.new.board) c.args.self.now c.send_first.new.self c.requires.works c.in-Err.ensures.sends

pub serve_cleaning-requires : goal.serve_cleaning-requires
serve_cleaning-requires g c =
    let seat = g.B.Board.seat c.args.board.now in
    let s = g.R.Region.state c.args.region.now in
    let v = g.B.Board.view c.args.board.now in
    let u = g.B.Board.view c.send_first.new.board in
    let w = c.args.self.now in
    let y = c.send_first.new.self in
    let tied = none_sent c.in-Ok.sent (StaysTiedFrom seat v u w y) c.if-sent.false c.in-Ok.ensures.tied in
    let none = was_none c.in-Ok.sent seat.place seat.number (g.B.Board.whole c.args.board.now) (g.B.Board.whole c.send_first.new.board) v u w y c.if-sent.false c.in-Ok.ensures.sends in
    record {
      may = subst (λ (x : SeatAt). MayServe s x u y) (sym c.send_first.ensures.seat) (tied_may s seat v u w y tied (readied_free seat.place seat.number _ w y none.readies c.requires.may.nothing) c.requires.may);
    }

pub returns-in-Ok-clause-serves : goal.returns-in-Ok-clause-serves
returns-in-Ok-clause-serves g c passes =
    let seat = g.B.Board.seat c.args.board.now in
    let s = g.R.Region.state c.args.region.now in
    let t = g.R.Region.state c.serve_cleaning.new.region in
    let w0 = g.B.Board.whole c.args.board.now in
    let w1 = g.B.Board.whole c.send_first.new.board in
    let w2 = g.B.Board.whole c.serve_cleaning.new.board in
    let v0 = g.B.Board.view c.args.board.now in
    let v1 = g.B.Board.view c.send_first.new.board in
    let v2 = g.B.Board.view c.serve_cleaning.new.board in
    let w = c.args.self.now in
    let y = c.send_first.new.self in
    let x = c.serve_cleaning.new.self in
    let e = c.serve_cleaning.ensures.serves passes in
    let N = was_none c.in-Ok.sent seat.place seat.number w0 w1 v0 v1 w y c.if-sent.false c.in-Ok.ensures.sends in
    record {
      seat = e.seat ∙ c.send_first.ensures.seat;
      keeps =
          goes_on seat s t _ w0 w1 w2 v0 v1 v2 w y x N
          (subst (λ (q : SeatAt). KeepsTurn q s t w1 w2 v1 v2 y x) c.send_first.ensures.seat e.keeps);
      memory = e.memory;
      awake = awake_before c.serve_cleaning.result y.winds_down w.winds_down N.readies.works e.awake;
      starts = e.starts;
      works = works_on c.serve_cleaning.result x.winds_down y.winds_down w.winds_down N.readies.works e.works;
      steps = turn_after_loads passes s t _ v1 _ _ _ _ _ (g.B.Board.at c.send_first.new.board) _ (steps_none c.in-Ok.sent _ _ _ _ c.if-sent.false c.in-Ok.ensures.steps) e.steps;
    }

pub returns-in-Ok-clause-turned : goal.returns-in-Ok-clause-turned
returns-in-Ok-clause-turned g c refused before v post tells told =
    let s = g.R.Region.state c.args.region.now in
    let t = g.R.Region.state c.serve_cleaning.new.region in
    let seat = g.B.Board.seat c.args.board.now in
    let v0 = g.B.Board.view c.args.board.now in
    let v1 = g.B.Board.view c.send_first.new.board in
    let v2 = g.B.Board.view c.serve_cleaning.new.board in
    let w = c.args.self.now in
    let y = c.send_first.new.self in
    let N = (was_none c.in-Ok.sent seat.place seat.number (g.B.Board.whole c.args.board.now) (g.B.Board.whole c.send_first.new.board) (g.B.Board.view c.args.board.now) (g.B.Board.view c.send_first.new.board) c.args.self.now c.send_first.new.self c.if-sent.false c.in-Ok.ensures.sends) in
    subst (λ (x : SeatAt). (q : Tells c.args.posted x.number w v v1) → PassesMail x.place x.number w q.0.looked.looks → PassesSending x.place x.number w y q.0.looked.looks → TurnedTo c.serve_cleaning.result s t refused before x (at_entry w v) (at_entry c.serve_cleaning.new.self v2)) c.send_first.ensures.seat
    (λ q mail sending. c.serve_cleaning.ensures.turned refused before v w post q mail sending)
    (passes_more seat.number (at_entry w v) 8 v0 v1 N.looks N.found.view tells.0, tells.1)
    (inr (inr (told_later seat.place seat.number tells.0.looked.looks N.looks told)))
    (inr (N.readies, full_later seat.number _ y tells.0.looked.looks N.looks N.full))

pub returns-in-Ok-clause-less : goal.returns-in-Ok-clause-less
returns-in-Ok-clause-less g c offer =
    let seat = g.B.Board.seat c.args.board.now in
    let w0 = g.B.Board.whole c.args.board.now in
    let w1 = g.B.Board.whole c.send_first.new.board in
    let w2 = g.B.Board.whole c.serve_cleaning.new.board in
    let y = c.send_first.new.self in
    let x = c.serve_cleaning.new.self in
    let less = subst (λ (q : SeatAt). (c.args.posted ≡ true → HasOffer w1 q.number) → Measures c.serve_cleaning.result w1 w2 y x) c.send_first.ensures.seat c.serve_cleaning.ensures.less in
    none_low seat.place seat.number _ c.serve_cleaning.result c.args.posted w0 w1 w2 (g.B.Board.view c.args.board.now) (g.B.Board.view c.send_first.new.board) c.args.self.now y x (was_none c.in-Ok.sent seat.place seat.number (g.B.Board.whole c.args.board.now) (g.B.Board.whole c.send_first.new.board) (g.B.Board.view c.args.board.now) (g.B.Board.view c.send_first.new.board) c.args.self.now c.send_first.new.self c.if-sent.false c.in-Ok.ensures.sends) offer less

pub returns-in-Ok-clause-tries : goal.returns-in-Ok-clause-tries
returns-in-Ok-clause-tries g c =
    let seat = g.B.Board.seat c.args.board.now in
    let w0 = g.B.Board.whole c.args.board.now in
    let w1 = g.B.Board.whole c.send_first.new.board in
    let w2 = g.B.Board.whole c.serve_cleaning.new.board in
    let v0 = g.B.Board.view c.args.board.now in
    let v1 = g.B.Board.view c.send_first.new.board in
    let v2 = g.B.Board.view c.serve_cleaning.new.board in
    let N = (was_none c.in-Ok.sent seat.place seat.number (g.B.Board.whole c.args.board.now) (g.B.Board.whole c.send_first.new.board) (g.B.Board.view c.args.board.now) (g.B.Board.view c.send_first.new.board) c.args.self.now c.send_first.new.self c.if-sent.false c.in-Ok.ensures.sends) in
    if_idle_to c.serve_cleaning.result (TriedIf c.args.posted (g.B.Board.seat c.send_first.new.board).number w1 w2 v2) (TriedAfter c.args.posted seat.number w0 w2 v0 v2)
    (λ t. tried_looked c.args.posted seat.number w0 w1 w2 v0 v1 v2 N.looks N.found (subst (λ (q : SeatAt). TriedIf c.args.posted q.number w1 w2 v2) c.send_first.ensures.seat t))
    c.serve_cleaning.ensures.tries
