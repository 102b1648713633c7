-- Item 4, and then items 5, 7 and 8.
use Rattle.std.proofs.Common.{refl, ◌∙◌, ◌++◌, sym, subst}
use Rattle.std.specs.Prelude.{is_ok}
use Rattle.store_image.specs.Facts.{In}
use Rattle.group_laws.specs.declared.types.Seen.TheVariants.{Slot}
use Rattle.group_board.specs.Seats.{SeatAt}
use Rattle.core_worker.specs.Finishing.{FinishesSlot}
use Rattle.core_worker.specs.Turning.{MayServe, KeepsTurn, TurnedTo, Tells, at_entry}
use Rattle.core_worker.specs.Turning.Did.{finishes}
use Rattle.core_worker.proofs.TurnLaws.{keeps_looked, looked_may}
use Rattle.core_worker.proofs.ItemLaws.{was_back, keeps_finish}
use Rattle.core_worker.proofs.LeftTurns.{measures_looked}
use Rattle.core_worker.proofs.LeftFair.{finishes_starts}
use Rattle.core_worker.proofs.LeftLocks.{lowers_looked}
use Rattle.core_worker.proofs.LeftTurns.{view_agrees}
use Rattle.core_worker.specs.Left.{HasOffer}
use Rattle.core_worker.specs.Resting.{IfIdle, TriedAfter}
use Rattle.core_worker.proofs.Rested.{Agrees, rests_by}
use Rattle.batch_leader.proofs.Clients.{loads_then, one_only, turn_of_one, turn_after_loads}
use Rattle.group_laws.specs.Runs.{Kind}
use Rattle.group_laws.proofs.Clients.{In-append_right}
use Rattle.group_laws.specs.MemberViews.{View}
use Rattle.core_worker.proofs.worker.Worker.serve_own.Goals as goal

pub take_back-requires-clause-may : goal.take_back-requires-clause-may
take_back-requires-clause-may g c =
    let s = g.R.Region.state c.args.region.now in
    let v = g.B.Board.view c.args.board.now in
    let mid = g.B.Board.view c.find_back.new.board in
    let P = c.in-Back.ensures.finds.2 in
    subst (λ (x : SeatAt). MayServe s x mid c.args.self.now) (sym c.find_back.ensures.seat)
    (looked_may s (g.B.Board.seat c.args.board.now) v mid c.args.self.now (v.looked ++ P.looked.looks) P.looked.view c.requires.may)

pub take_back-requires-clause-seen : goal.take_back-requires-clause-seen
take_back-requires-clause-seen g c =
    let seat = g.B.Board.seat c.args.board.now in
    let v = g.B.Board.view c.args.board.now in
    let P = c.in-Back.ensures.finds.2 in
    let f = c.in-Back.ensures.finds.3 in
    was_back (g.B.Board.seat c.find_back.new.board).number c.in-Back.slot (g.B.Board.view c.find_back.new.board) f.0 f.1
    (subst (λ (x : SeatAt). In (Slot x.number c.in-Back.slot f.0) (g.B.Board.view c.find_back.new.board).looked) (sym c.find_back.ensures.seat)
    (subst (λ (x : View). In (Slot seat.number c.in-Back.slot f.0) x.looked) (sym P.looked.view) (In-append_right (Slot seat.number c.in-Back.slot f.0) v.looked P.looked.looks f.2)))

pub returns-in-Ok-clause-serves : goal.returns-in-Ok-clause-serves
returns-in-Ok-clause-serves g c =
    let seat = g.B.Board.seat c.args.board.now in
    let here = g.B.Board.seat c.find_back.new.board in
    let w0 = g.B.Board.whole c.args.board.now in
    let w1 = g.B.Board.whole c.find_back.new.board in
    let w2 = g.B.Board.whole c.take_back.new.board in
    let v = g.B.Board.view c.args.board.now in
    let mid = g.B.Board.view c.find_back.new.board in
    let u = g.B.Board.view c.take_back.new.board in
    let s = g.R.Region.state c.args.region.now in
    let w = c.args.self.now in
    let x = c.take_back.new.self in
    let P = c.in-Back.ensures.finds.2 in
    let xs = v.looked ++ P.looked.looks in
    let e = c.take_back.ensures in
    let found = c.find_back.ensures in
    let M = subst (λ (y : SeatAt). MayServe s y mid w) (sym found.seat) (looked_may s seat v mid w xs P.looked.view c.requires.may) in
    let K : KeepsTurn here s s w1 w2 mid u w x =
    keeps_finish here s w1 w2 mid u w x c.in-Back.slot (is_ok c.take_back.result) c.in-Back.ensures.finds.0 M.tied.holds e.holds M.tied.stands e.stands M.tied.order e.order e.rule e.made e.cause e.finishes in
    record {
      seat = e.seat ∙ found.seat;
      keeps = keeps_looked seat s s w0 w1 w2 v mid u w x xs P.looked.view found.looks (subst (λ (y : SeatAt). KeepsTurn y s s w1 w2 mid u w x) found.seat K);
      memory = tt;
      awake = tt;
      starts = finishes_starts s here.place here.number c.in-Back.slot mid u w x _ M.nothing e.finishes;
      works = c.in-Ok.ensures.works;
      steps =
          turn_of_one (g.G.Gate.may_pass c.args.gate.now) s _ _ _ _ _ _
          (loads_then _ _ _ _ _ _ found.steps (one_only _ _ _ _ (Kind.Finish c.in-Back.slot) e.step refl));
    }

pub returns-in-Ok-clause-turned : goal.returns-in-Ok-clause-turned
returns-in-Ok-clause-turned g c =
    finishes refl (is_ok c.take_back.result) (record {
      slot = c.in-Back.slot;
      mid = g.B.Board.view c.find_back.new.board;
      before = c.in-Back.ensures.finds.2;
      back = c.in-Back.ensures.finds.3;
      finishes = subst (λ (x : SeatAt). FinishesSlot (g.R.Region.state c.args.region.now) x.place x.number c.in-Back.slot (g.B.Board.view c.find_back.new.board) (g.B.Board.view c.take_back.new.board) c.args.self.now c.take_back.new.self (is_ok c.take_back.result)) c.find_back.ensures.seat c.take_back.ensures.finishes;
    })

pub returns-in-Err-clause-serves : goal.returns-in-Err-clause-serves
returns-in-Err-clause-serves g c =
    let seat = g.B.Board.seat c.args.board.now in
    let here = g.B.Board.seat c.find_back.new.board in
    let w0 = g.B.Board.whole c.args.board.now in
    let w1 = g.B.Board.whole c.find_back.new.board in
    let w2 = g.B.Board.whole c.take_back.new.board in
    let v = g.B.Board.view c.args.board.now in
    let mid = g.B.Board.view c.find_back.new.board in
    let u = g.B.Board.view c.take_back.new.board in
    let s = g.R.Region.state c.args.region.now in
    let w = c.args.self.now in
    let x = c.take_back.new.self in
    let P = c.in-Back.ensures.finds.2 in
    let xs = v.looked ++ P.looked.looks in
    let e = c.take_back.ensures in
    let found = c.find_back.ensures in
    let M = subst (λ (y : SeatAt). MayServe s y mid w) (sym found.seat) (looked_may s seat v mid w xs P.looked.view c.requires.may) in
    let K : KeepsTurn here s s w1 w2 mid u w x =
    keeps_finish here s w1 w2 mid u w x c.in-Back.slot (is_ok c.take_back.result) c.in-Back.ensures.finds.0 M.tied.holds e.holds M.tied.stands e.stands M.tied.order e.order e.rule e.made e.cause e.finishes in
    record {
      seat = e.seat ∙ found.seat;
      keeps = keeps_looked seat s s w0 w1 w2 v mid u w x xs P.looked.view found.looks (subst (λ (y : SeatAt). KeepsTurn y s s w1 w2 mid u w x) found.seat K);
      memory = c.in-Err.ensures.memory;
      awake = c.in-Err.ensures.awake;
      starts = finishes_starts s here.place here.number c.in-Back.slot mid u w x _ M.nothing e.finishes;
      works = tt;
      steps =
          turn_of_one (g.G.Gate.may_pass c.args.gate.now) s _ _ _ _ _ _
          (loads_then _ _ _ _ _ _ found.steps (one_only _ _ _ _ (Kind.Finish c.in-Back.slot) e.step refl));
    }

pub returns-in-Err-clause-turned : goal.returns-in-Err-clause-turned
returns-in-Err-clause-turned g c =
    finishes refl (is_ok c.take_back.result) (record {
      slot = c.in-Back.slot;
      mid = g.B.Board.view c.find_back.new.board;
      before = c.in-Back.ensures.finds.2;
      back = c.in-Back.ensures.finds.3;
      finishes = subst (λ (x : SeatAt). FinishesSlot (g.R.Region.state c.args.region.now) x.place x.number c.in-Back.slot (g.B.Board.view c.find_back.new.board) (g.B.Board.view c.take_back.new.board) c.args.self.now c.take_back.new.self (is_ok c.take_back.result)) c.find_back.ensures.seat c.take_back.ensures.finishes;
    })

pub serve_staged-requires : goal.serve_staged-requires
serve_staged-requires g c =
    let s = g.R.Region.state c.args.region.now in
    let v = g.B.Board.view c.args.board.now in
    let mid = g.B.Board.view c.find_back.new.board in
    let P = c.in-Out.ensures.finds.0 in
    record {
      may = subst (λ (x : SeatAt). MayServe s x mid c.args.self.now) (sym c.find_back.ensures.seat)
          (looked_may s (g.B.Board.seat c.args.board.now) v mid c.args.self.now (v.looked ++ P.looked.looks) P.looked.view c.requires.may);
    }

pub returns-in-Out-clause-serves : goal.returns-in-Out-clause-serves
returns-in-Out-clause-serves g c =
    let seat = g.B.Board.seat c.args.board.now in
    let w0 = g.B.Board.whole c.args.board.now in
    let w1 = g.B.Board.whole c.find_back.new.board in
    let w2 = g.B.Board.whole c.serve_staged.new.board in
    let v = g.B.Board.view c.args.board.now in
    let mid = g.B.Board.view c.find_back.new.board in
    let u = g.B.Board.view c.serve_staged.new.board in
    let s = g.R.Region.state c.args.region.now in
    let t = g.R.Region.state c.serve_staged.new.region in
    let w = c.args.self.now in
    let x = c.serve_staged.new.self in
    let P = c.in-Out.ensures.finds.0 in
    let e = c.serve_staged.ensures.serves in
    let found = c.find_back.ensures in
    record {
      seat = e.seat ∙ found.seat;
      keeps =
          keeps_looked seat s t w0 w1 w2 v mid u w x (v.looked ++ P.looked.looks) P.looked.view found.looks
          (subst (λ (y : SeatAt). KeepsTurn y s t w1 w2 mid u w x) found.seat e.keeps);
      memory = e.memory;
      awake = e.awake;
      starts = e.starts;
      works = e.works;
      steps = turn_after_loads (g.G.Gate.may_pass c.args.gate.now) s t _ mid _ _ _ _ _ (g.B.Board.at c.find_back.new.board) _ found.steps e.steps;
    }

pub returns-in-Out-clause-turned : goal.returns-in-Out-clause-turned
returns-in-Out-clause-turned g c =
    let here = g.B.Board.seat c.find_back.new.board in
    let v = g.B.Board.view c.args.board.now in
    let mid = g.B.Board.view c.find_back.new.board in
    let u = g.B.Board.view c.serve_staged.new.board in
    subst (λ (x : SeatAt). TurnedTo c.serve_staged.result (g.R.Region.state c.args.region.now) (g.R.Region.state c.serve_staged.new.region) (g.G.Gate.may_refuse c.args.gate.now) (g.B.Board.whole c.args.board.now) x (at_entry c.args.self.now v) (at_entry c.serve_staged.new.self u)) c.find_back.ensures.seat
    (c.serve_staged.ensures.turned (g.B.Board.whole c.args.board.now) v (subst (λ (x : SeatAt). Tells c.in-Out.posted x.number c.args.self.now v mid) (sym c.find_back.ensures.seat) c.in-Out.ensures.finds))

pub returns-in-Ok-clause-less : goal.returns-in-Ok-clause-less
returns-in-Ok-clause-less g c =
    let looks = c.find_back.ensures.looks in
    lowers_looked (g.B.Board.whole c.args.board.now) (g.B.Board.whole c.find_back.new.board) (g.B.Board.whole c.take_back.new.board) (g.B.Board.seat c.args.board.now).number looks.0 (g.B.Board.view c.find_back.new.board) c.args.self.now c.take_back.new.self looks.1 c.take_back.ensures.less

pub returns-in-Err-clause-less : goal.returns-in-Err-clause-less
returns-in-Err-clause-less g c =
    let looks = c.find_back.ensures.looks in
    lowers_looked (g.B.Board.whole c.args.board.now) (g.B.Board.whole c.find_back.new.board) (g.B.Board.whole c.take_back.new.board) (g.B.Board.seat c.args.board.now).number looks.0 (g.B.Board.view c.find_back.new.board) c.args.self.now c.take_back.new.self looks.1 c.take_back.ensures.less

pub returns-in-Out-clause-less : goal.returns-in-Out-clause-less
returns-in-Out-clause-less g c =
    let m = (g.B.Board.seat c.args.board.now).number in
    let mid = g.B.Board.whole c.find_back.new.board in
    let looks = c.find_back.ensures.looks in
    let finds = c.in-Out.ensures.finds in
    measures_looked c.serve_staged.result (g.B.Board.whole c.args.board.now) mid (g.B.Board.whole c.serve_staged.new.board) m looks.0 (record { worker = c.args.self.now; view = g.B.Board.view c.args.board.now }) (g.B.Board.view c.find_back.new.board) c.serve_staged.new.self c.in-Out.posted looks.1
    (view_agrees (g.B.Board.whole c.args.board.now) (g.B.Board.seat c.args.board.now) (g.B.Board.view c.args.board.now) (g.met.B.Board.agrees c.args.board.now)) finds.0.looked finds.1
    (λ offer. c.serve_staged.ensures.less (λ yes. subst (λ (q : SeatAt). HasOffer mid q.number) (sym c.find_back.ensures.seat) (offer yes)))

pub returns-in-Out-clause-idles : goal.returns-in-Out-clause-idles
returns-in-Out-clause-idles g c =
    let here = g.B.Board.seat c.args.board.now in
    let w0 = g.B.Board.whole c.args.board.now in
    let w1 = g.B.Board.whole c.find_back.new.board in
    let w2 = g.B.Board.whole c.serve_staged.new.board in
    let v = g.B.Board.view c.args.board.now in
    let u = g.B.Board.view c.serve_staged.new.board in
    let finds = c.in-Out.ensures.finds in
    let K = (returns-in-Out-clause-serves g c).keeps in
    rests_by c.serve_staged.result (g.R.Region.state c.args.region.now) (g.R.Region.state c.serve_staged.new.region) (g.G.Gate.may_refuse c.args.gate.now) here (record { worker = c.args.self.now; view = v }) (record { worker = c.serve_staged.new.self; view = u }) (g.B.Board.view c.find_back.new.board) finds.0 c.in-Out.posted finds.1 w0 w1 w2 c.find_back.ensures.looks
    (subst (λ (q : SeatAt). IfIdle c.serve_staged.result (TriedAfter c.in-Out.posted q.number w1 w2 (g.B.Board.view c.find_back.new.board) u)) c.find_back.ensures.seat c.serve_staged.ensures.tries)
    (returns-in-Out-clause-turned g c) K.holds K.order.hand (g.met.B.Board.agrees c.args.board.now)
    (subst (λ (q : SeatAt). Agrees q.place q.number u w2) (c.serve_staged.ensures.serves.seat ∙ c.find_back.ensures.seat) (g.met.B.Board.agrees c.serve_staged.new.board)) (g.met.B.Board.lawful c.serve_staged.new.board)
