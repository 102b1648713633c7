-- What a member told is received, or the lock is tried after all mailboxes were found empty.
use Rattle.std.proofs.Common.{◌≡◌, ◌++◌, inl, inr, true, refl, sym, ◌∙◌, ap, subst}
use Rattle.group_laws.specs.Runs.{Kind}
use Rattle.group_laws.proofs.Clients.{In-append_right}
use Rattle.group_board.specs.Seats.{SeatAt}
use Rattle.batch_leader.proofs.Clients.{turn_of_one, turn_after_loads}
use Rattle.core_worker.specs.declared.worker.Worker.{Worker}
use Rattle.core_worker.specs.Left.{HasOffer, Measures}
use Rattle.core_worker.specs.Mails.{NoneTold}
use Rattle.core_worker.specs.Resting.{TriedIf, TriedAfter}
use Rattle.core_worker.specs.Turning.{MayServe, KeepsTurn, Tells, TurnedTo, at_entry}
use Rattle.core_worker.specs.Turning.Did.{receives}
use Rattle.core_worker.specs.Turns.{PassesPost}
use Rattle.core_worker.proofs.HeardMoves.{keeps_heard, heard_low}
use Rattle.core_worker.proofs.LeftFair.{starts_still}
use Rattle.core_worker.proofs.LeftLocks.{lowers_looked}
use Rattle.core_worker.proofs.LeftMails.{receives_lower}
use Rattle.core_worker.proofs.MailTurns.{passes_more, both_steps, tried_at_once}
use Rattle.core_worker.proofs.SentTurns.{awake_before, if_idle_to, measures_by, tried_later, works_on}
use Rattle.core_worker.proofs.TurnLaws.{keeps_looked, looked_may}
use Rattle.core_worker.proofs.worker.Worker.serve_mail.Goals as goal
use Rattle.core_worker.proofs.worker.Worker.serve_mail.Goals.{then-self-via-then-self, then-self-via-else-self+then-self-2}

pub returns-then-self-clause-turned : goal.returns-then-self-clause-turned
returns-then-self-clause-turned g c refused before v post tells = c.serve_cleaning.ensures.turned refused before v c.args.self.now post tells (elim c.then-self.branch [
  | then-self-via-then-self w ↦ inl w.if-self.true
  | then-self-via-else-self+then-self-2 w ↦ inr (inl w.if-self-2.true)
]) (inl (
  refl,
  elim c.then-self.branch [
    | then-self-via-then-self w ↦ inl w.if-self.true
    | then-self-via-else-self+then-self-2 w ↦ inr w.if-self-2.true
  ],
))

pub returns-then-self-clause-tries : goal.returns-then-self-clause-tries
returns-then-self-clause-tries g c =
    let seat = g.B.Board.seat c.args.board.now in
    let w0 = g.B.Board.whole c.args.board.now in
    let w2 = g.B.Board.whole c.serve_cleaning.new.board in
    let v0 = g.B.Board.view c.args.board.now in
    let v2 = g.B.Board.view c.serve_cleaning.new.board in
    if_idle_to c.serve_cleaning.result (TriedIf c.args.posted seat.number w0 w2 v2) (TriedAfter c.args.posted seat.number w0 w2 v0 v2)
    (λ t. tried_at_once c.args.posted seat.number w0 w2 seat.place v0 v2 (g.met.B.Board.agrees c.args.board.now) t)
    c.serve_cleaning.ensures.tries

pub returns-then-receive_first-clause-serves : goal.returns-then-receive_first-clause-serves
returns-then-receive_first-clause-serves g c passes =
    let s = g.R.Region.state c.args.region.now in
    let seat = g.B.Board.seat c.args.board.now in
    let w0 = g.B.Board.whole c.args.board.now in
    let w1 = g.B.Board.whole c.receive_first.new.board in
    let v0 = g.B.Board.view c.args.board.now in
    let v1 = g.B.Board.view c.receive_first.new.board in
    let old = c.args.self.now in
    let new = c.receive_first.new.self in
    let R = c.if-receive_first.ensures.received in
    let xs = v0.looked ++ R.empty.looks in
    let M = looked_may s seat v0 R.mid old xs R.empty.view c.requires.may in
    record {
      seat = c.receive_first.ensures.seat;
      keeps =
          keeps_looked seat s s w0 R.between w1 v0 R.mid v1 old new xs R.empty.view (R.empty.loads, R.empty.made)
          (keeps_heard seat s R.between w1 R.from R.mid v1 old new M.tied.holds M.tied.stands M.tied.order c.if-self.false M.nothing
          (both_steps R.between w1 seat.number (Kind.LookMail R.from seat.number) (Kind.Receive R.from) v1 R.made) R.hears);
      memory = tt;
      awake = tt;
      starts = starts_still old new (ap (λ (y : Worker). y.leading) R.hears.same) M.nothing;
      works = ap (λ (y : Worker). y.winds_down) R.hears.same;
      steps = turn_of_one passes s _ _ _ _ _ _ c.if-receive_first.ensures.steps;
    }

pub returns-then-receive_first-clause-turned : goal.returns-then-receive_first-clause-turned
returns-then-receive_first-clause-turned g c refused before v post tells =
    let seat = g.B.Board.seat c.args.board.now in
    let R = c.if-receive_first.ensures.received in
    receives refl (record {
      mid = R.mid;
      before = passes_more seat.number (at_entry c.args.self.now v) 8 (g.B.Board.view c.args.board.now) R.mid R.empty.looks R.empty.view tells.0;
      post = post;
      runs = (c.if-self.false, c.if-self-2.false);
      from = R.from;
      empty = λ h lt ne. In-append_right _ tells.0.looked.looks R.empty.looks (R.empty.empty h lt ne);
      hears = R.hears;
    })

pub returns-then-receive_first-clause-less : goal.returns-then-receive_first-clause-less
returns-then-receive_first-clause-less g c offer =
    let seat = g.B.Board.seat c.args.board.now in
    let w0 = g.B.Board.whole c.args.board.now in
    let w1 = g.B.Board.whole c.receive_first.new.board in
    let v1 = g.B.Board.view c.receive_first.new.board in
    let R = c.if-receive_first.ensures.received in
    lowers_looked w0 R.between w1 seat.number R.empty.loads R.mid c.args.self.now c.receive_first.new.self R.empty.made
    (receives_lower R.between w1 seat.number R.from v1 c.args.self.now c.receive_first.new.self R.made (heard_low seat.place seat.number R.from R.mid v1 c.args.self.now c.receive_first.new.self R.hears))

pub serve_sending-requires-clause-may : goal.serve_sending-requires-clause-may
serve_sending-requires-clause-may g c =
    let seat = g.B.Board.seat c.args.board.now in
    let s = g.R.Region.state c.args.region.now in
    let v0 = g.B.Board.view c.args.board.now in
    let v1 = g.B.Board.view c.receive_first.new.board in
    let R = c.if-receive_first.ensures.received in
    subst (λ (y : Worker). MayServe s (g.B.Board.seat c.receive_first.new.board) v1 y) (sym R.0)
    (subst (λ (x : SeatAt). MayServe s x v1 c.args.self.now) (sym c.receive_first.ensures.seat)
    (looked_may s seat v0 v1 c.args.self.now (v0.looked ++ R.1.looks) R.1.view c.requires.may))

pub returns-clause-serves : goal.returns-clause-serves
returns-clause-serves g c passes =
    let seat = g.B.Board.seat c.args.board.now in
    let s = g.R.Region.state c.args.region.now in
    let t = g.R.Region.state c.serve_sending.new.region in
    let w0 = g.B.Board.whole c.args.board.now in
    let w1 = g.B.Board.whole c.receive_first.new.board in
    let w2 = g.B.Board.whole c.serve_sending.new.board in
    let v0 = g.B.Board.view c.args.board.now in
    let v1 = g.B.Board.view c.receive_first.new.board in
    let v2 = g.B.Board.view c.serve_sending.new.board in
    let old = c.args.self.now in
    let heard = c.receive_first.new.self in
    let new = c.serve_sending.new.self in
    let e = c.serve_sending.ensures.serves passes in
    let R = c.if-receive_first.ensures.received in
    let xs = v0.looked ++ R.1.looks in
    let winds = ap (λ (y : Worker). y.winds_down) R.0 in
    record {
      seat = e.seat ∙ c.receive_first.ensures.seat;
      keeps =
          keeps_looked seat s t w0 w1 w2 v0 v1 v2 old new xs R.1.view (R.1.loads, R.1.made)
          (subst (λ (y : Worker). KeepsTurn seat s t w1 w2 v1 v2 y new) R.0
          (subst (λ (x : SeatAt). KeepsTurn x s t w1 w2 v1 v2 heard new) c.receive_first.ensures.seat e.keeps));
      memory = e.memory;
      awake = awake_before c.serve_sending.result heard.winds_down old.winds_down winds e.awake;
      starts = e.starts;
      works = works_on c.serve_sending.result new.winds_down heard.winds_down old.winds_down winds e.works;
      steps = turn_after_loads passes s t _ v1 _ _ _ _ _ (g.B.Board.at c.receive_first.new.board) _ c.if-receive_first.ensures.steps e.steps;
    }

pub returns-clause-turned : goal.returns-clause-turned
returns-clause-turned g c refused before v post tells =
    let s = g.R.Region.state c.args.region.now in
    let t = g.R.Region.state c.serve_sending.new.region in
    let seat = g.B.Board.seat c.args.board.now in
    let v0 = g.B.Board.view c.args.board.now in
    let v1 = g.B.Board.view c.receive_first.new.board in
    let v2 = g.B.Board.view c.serve_sending.new.board in
    let old = c.args.self.now in
    let R = c.if-receive_first.ensures.received in
    let turned = subst (λ (y : Worker). PassesPost refused y → (x : Tells c.args.posted seat.number y v v1) → NoneTold seat.place seat.number x.0.looked.looks → TurnedTo c.serve_sending.result s t refused before seat (at_entry y v) (at_entry c.serve_sending.new.self v2)) R.0
    (subst (λ (x : SeatAt). PassesPost refused c.receive_first.new.self → (y : Tells c.args.posted x.number c.receive_first.new.self v v1) → NoneTold x.place x.number y.0.looked.looks → TurnedTo c.serve_sending.result s t refused before x (at_entry c.receive_first.new.self v) (at_entry c.serve_sending.new.self v2)) c.receive_first.ensures.seat
    (c.serve_sending.ensures.turned refused before v)) in
    turned post (passes_more seat.number (at_entry old v) 8 v0 v1 R.1.looks R.1.view tells.0, tells.1)
    (λ a lt ne. In-append_right _ tells.0.looked.looks R.1.looks (R.1.empty a lt ne))

pub returns-clause-less : goal.returns-clause-less
returns-clause-less g c offer =
    let seat = g.B.Board.seat c.args.board.now in
    let w0 = g.B.Board.whole c.args.board.now in
    let w1 = g.B.Board.whole c.receive_first.new.board in
    let w2 = g.B.Board.whole c.serve_sending.new.board in
    let R = c.if-receive_first.ensures.received in
    let less = subst (λ (y : Worker). (c.args.posted ≡ true → HasOffer w1 seat.number) → Measures c.serve_sending.result w1 w2 y c.serve_sending.new.self) R.0
    (subst (λ (x : SeatAt). (c.args.posted ≡ true → HasOffer w1 x.number) → Measures c.serve_sending.result w1 w2 c.receive_first.new.self c.serve_sending.new.self) c.receive_first.ensures.seat c.serve_sending.ensures.less) in
    measures_by c.serve_sending.result c.args.posted w0 w1 w2 seat.number R.1.loads (g.B.Board.view c.receive_first.new.board) c.args.self.now c.serve_sending.new.self R.1.made offer less

pub returns-clause-tries : goal.returns-clause-tries
returns-clause-tries g c =
    let seat = g.B.Board.seat c.args.board.now in
    let w0 = g.B.Board.whole c.args.board.now in
    let w1 = g.B.Board.whole c.receive_first.new.board in
    let w2 = g.B.Board.whole c.serve_sending.new.board in
    let v0 = g.B.Board.view c.args.board.now in
    let v1 = g.B.Board.view c.receive_first.new.board in
    let v2 = g.B.Board.view c.serve_sending.new.board in
    let R = c.if-receive_first.ensures.received in
    if_idle_to c.serve_sending.result (TriedAfter c.args.posted (g.B.Board.seat c.receive_first.new.board).number w1 w2 v1 v2) (TriedAfter c.args.posted seat.number w0 w2 v0 v2)
    (λ t. tried_later c.args.posted seat.number _ w0 w1 w2 v0 v1 v2 R.1 (subst (λ (x : SeatAt). TriedAfter c.args.posted x.number w1 w2 v1 v2) c.receive_first.ensures.seat t))
    c.serve_sending.ensures.tries

pub returns-then-self-clause-serves : goal.returns-then-self-clause-serves
returns-then-self-clause-serves g c passes = c.serve_cleaning.ensures.serves passes
