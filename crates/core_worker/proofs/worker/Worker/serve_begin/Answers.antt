-- A cleaning begins, or the lock is tried.
use Rattle.std.proofs.Common.{[], refl, sym, ◌∙◌, ap, arith}
use Rattle.batch_leader.proofs.Clients.{no_loads, no_steps, turn_of_loads}
use Rattle.core_worker.specs.declared.worker.Worker.{Worker}
use Rattle.core_worker.specs.Turning.Did.{begins}
use Rattle.core_worker.proofs.BegunHolds.{begun_less, keeps_begun, keeps_searched, looked_holds, looked_left, looked_order, looked_stands, none_left, none_way}
use Rattle.core_worker.proofs.BegunTurns.{keeps_wound, short_begun, was_begun, was_none_begun, wound_did}
use Rattle.core_worker.proofs.CopiedItem.{measured_there}
use Rattle.core_worker.proofs.LeftFair.{starts_nothing}
use Rattle.core_worker.proofs.LeftItems.{lowers_still}
use Rattle.core_worker.proofs.SentTurns.{lowers_ready, measures_ready, short_low, short_starts}
use Rattle.core_worker.proofs.worker.Worker.serve_begin.Goals as goal

pub begin_next-requires-clause-measured : goal.begin_next-requires-clause-measured
begin_next-requires-clause-measured g c = let seat = g.B.Board.seat c.args.board.now in measured_there seat.place seat.number (g.B.Board.view c.args.board.now) c.args.self.now c.requires.may.tied.holds

pub begin_next-requires-clause-layout : goal.begin_next-requires-clause-layout
begin_next-requires-clause-layout g c = c.requires.may.tied.holds.log_layout ∙ sym c.requires.may.tied.holds.layout

pub begin_next-requires-clause-stands : goal.begin_next-requires-clause-stands
begin_next-requires-clause-stands g c = c.requires.may.tied.stands.log

pub begin_next-requires-clause-counted : goal.begin_next-requires-clause-counted
begin_next-requires-clause-counted g c runs works telling = (c.requires.may.tied.stands.names runs works telling).counted.counts

pub begin_next-requires-clause-floors : goal.begin_next-requires-clause-floors
begin_next-requires-clause-floors g c runs works telling = (c.requires.may.tied.stands.names runs works telling).floors

pub returns-then-begun-clause-serves : goal.returns-then-begun-clause-serves
returns-then-begun-clause-serves g c passes =
    let seat = g.B.Board.seat c.args.board.now in
    let s = g.R.Region.state c.args.region.now in
    let v = g.B.Board.view c.args.board.now in
    let before = g.B.Board.whole c.args.board.now in
    let may = c.requires.may in
    let B = was_begun c.in-Ok.begun s c.args.self.now c.begin_next.new.self c.if-begun.true c.in-Ok.ensures in
    record {
      seat = refl;
      keeps = keeps_begun seat s before v c.args.self.now c.begin_next.new.self may.tied.holds may.tied.stands may.tied.order may.nothing c.requires.clean B ([], no_steps before seat.number seat.place v (g.met.B.Board.agrees c.args.board.now));
      memory = tt;
      awake = tt;
      starts = starts_nothing c.begin_next.new.self (may.nothing.0, ap (λ (y : Worker). y.leading) B.same ∙ may.nothing.1);
      works = ap (λ (y : Worker). y.winds_down) B.same;
      steps = turn_of_loads passes s s _ _ _ _ _ _ (no_loads v (g.B.Board.trail c.args.board.now));
    }

pub returns-then-begun-clause-turned : goal.returns-then-begun-clause-turned
returns-then-begun-clause-turned g c refused start from w post tells mail sending =
    let s = g.R.Region.state c.args.region.now in
    let B = was_begun c.in-Ok.begun s c.args.self.now c.begin_next.new.self c.if-begun.true c.in-Ok.ensures in
    begins refl (record {
      mid = g.B.Board.view c.args.board.now;
      before = tells.0;
      post = post;
      mail = mail;
      ready = c.args.self.now;
      sending = sending;
      clean = c.requires.clean;
      begins = B;
      view = refl;
    })

pub returns-then-begun-clause-less : goal.returns-then-begun-clause-less
returns-then-begun-clause-less g c offer =
    let seat = g.B.Board.seat c.args.board.now in
    let s = g.R.Region.state c.args.region.now in
    let v = g.B.Board.view c.args.board.now in
    let before = g.B.Board.whole c.args.board.now in
    let B = was_begun c.in-Ok.begun s c.args.self.now c.begin_next.new.self c.if-begun.true c.in-Ok.ensures in
    lowers_still before before c.args.self.now c.begin_next.new.self refl (begun_less s seat.place seat.number v c.args.self.now c.begin_next.new.self c.requires.may.tied.holds c.requires.may.tied.stands c.requires.may.tied.order c.requires.may.nothing c.requires.clean B)

pub serve_lock-turn-requires-clause-holds : goal.serve_lock-turn-requires-clause-holds
serve_lock-turn-requires-clause-holds g c =
    let seat = g.B.Board.seat c.args.board.now in
    let s = g.R.Region.state c.args.region.now in
    let N = was_none_begun c.in-Ok.begun s c.args.self.now c.begin_next.new.self c.if-begun.false c.in-Ok.ensures in
    looked_holds s seat.place seat.number (g.B.Board.view c.args.board.now) c.args.self.now c.begin_next.new.self c.requires.may.tied.holds c.requires.may.nothing N.looks

pub serve_lock-turn-requires-clause-order : goal.serve_lock-turn-requires-clause-order
serve_lock-turn-requires-clause-order g c =
    let seat = g.B.Board.seat c.args.board.now in
    let s = g.R.Region.state c.args.region.now in
    let N = was_none_begun c.in-Ok.begun s c.args.self.now c.begin_next.new.self c.if-begun.false c.in-Ok.ensures in
    looked_order s seat.place seat.number (g.B.Board.view c.args.board.now) c.args.self.now c.begin_next.new.self c.requires.may.tied.holds c.requires.may.nothing N.looks c.requires.may.tied.order

pub serve_lock-turn-requires-clause-nothing : goal.serve_lock-turn-requires-clause-nothing
serve_lock-turn-requires-clause-nothing g c =
    let s = g.R.Region.state c.args.region.now in
    let N = was_none_begun c.in-Ok.begun s c.args.self.now c.begin_next.new.self c.if-begun.false c.in-Ok.ensures in
    (c.requires.may.nothing.0, ap (λ (y : Worker). y.leading) N.looks.same ∙ c.requires.may.nothing.1)

pub serve_lock-turn-requires-clause-clean : goal.serve_lock-turn-requires-clause-clean
serve_lock-turn-requires-clause-clean g c =
    let s = g.R.Region.state c.args.region.now in
    let N = was_none_begun c.in-Ok.begun s c.args.self.now c.begin_next.new.self c.if-begun.false c.in-Ok.ensures in
    none_way s c.args.self.now c.begin_next.new.self N ∙ c.requires.clean

pub returns-in-Ok-clause-serves : goal.returns-in-Ok-clause-serves
returns-in-Ok-clause-serves g c passes =
    let seat = g.B.Board.seat c.args.board.now in
    let s = g.R.Region.state c.args.region.now in
    let v = g.B.Board.view c.args.board.now in
    let w = c.args.self.now in
    let y = c.begin_next.new.self in
    let may = c.requires.may in
    let e = c.serve_lock-turn.ensures in
    let N = was_none_begun c.in-Ok.begun s w y c.if-begun.false c.in-Ok.ensures in
    record {
      seat = e.seat;
      keeps =
          keeps_searched seat s s (g.B.Board.whole c.args.board.now) (g.B.Board.whole c.serve_lock-turn.new.board) v (g.B.Board.view c.serve_lock-turn.new.board) w y c.serve_lock-turn.new.self may.tied.holds may.nothing N.looks
          (e.keeps s (looked_stands s seat.place seat.number v w y may.tied.holds may.nothing N.looks may.tied.stands c.requires.clean));
      memory = tt;
      awake = tt;
      starts = e.starts;
      works = e.works ∙ ap (λ (z : Worker). z.winds_down) N.looks.same;
      steps = e.steps passes s;
    }

pub returns-in-Ok-clause-turned : goal.returns-in-Ok-clause-turned
returns-in-Ok-clause-turned g c refused start from w post tells mail sending =
    let s = g.R.Region.state c.args.region.now in
    let N = was_none_begun c.in-Ok.begun s c.args.self.now c.begin_next.new.self c.if-begun.false c.in-Ok.ensures in
    c.serve_lock-turn.ensures.turned s refused start from w c.args.self.now post tells mail sending N

pub returns-in-Ok-clause-less : goal.returns-in-Ok-clause-less
returns-in-Ok-clause-less g c offer =
    let seat = g.B.Board.seat c.args.board.now in
    let s = g.R.Region.state c.args.region.now in
    let N = was_none_begun c.in-Ok.begun s c.args.self.now c.begin_next.new.self c.if-begun.false c.in-Ok.ensures in
    let same = none_left s c.args.self.now c.begin_next.new.self N in
    measures_ready c.serve_lock-turn.result (g.B.Board.whole c.args.board.now) (g.B.Board.whole c.serve_lock-turn.new.board) c.args.self.now c.begin_next.new.self c.serve_lock-turn.new.self (omega (arith, same)) (c.serve_lock-turn.ensures.less offer)

pub returns-in-Err-clause-serves : goal.returns-in-Err-clause-serves
returns-in-Err-clause-serves g c passes =
    let seat = g.B.Board.seat c.args.board.now in
    let s = g.R.Region.state c.args.region.now in
    let v = g.B.Board.view c.args.board.now in
    let before = g.B.Board.whole c.args.board.now in
    let w = c.args.self.now in
    let x = c.begin_next.new.self in
    let may = c.requires.may in
    let f = c.in-Err.ensures.2.0 in
    let looks = c.in-Err.ensures.2.1 in
    let winds = c.in-Err.ensures.2.2 in
    record {
      seat = refl;
      keeps =
          keeps_searched seat s s before before v v w f x may.tied.holds may.nothing looks
          (keeps_wound seat s before v f x (g.met.B.Board.agrees c.args.board.now) (looked_holds s seat.place seat.number v w f may.tied.holds may.nothing looks) (looked_stands s seat.place seat.number v w f may.tied.holds may.nothing looks may.tied.stands c.requires.clean) (looked_order s seat.place seat.number v w f may.tied.holds may.nothing looks may.tied.order) winds);
      memory = ap (λ (y : Worker). y.winds_down) winds;
      awake = c.in-Err.ensures.1;
      starts = short_starts seat.place seat.number before before v v f x (may.nothing.0, ap (λ (y : Worker). y.leading) looks.same ∙ may.nothing.1) (short_begun seat.place seat.number before v f x (g.met.B.Board.agrees c.args.board.now) winds);
      works = tt;
      steps = turn_of_loads passes s s _ _ _ _ _ _ (no_loads v (g.B.Board.trail c.args.board.now));
    }

pub returns-in-Err-clause-turned : goal.returns-in-Err-clause-turned
returns-in-Err-clause-turned g c refused start from w post tells mail sending =
    wound_did (g.R.Region.state c.args.region.now) refused start (g.B.Board.whole c.args.board.now) (g.B.Board.seat c.args.board.now) from (g.B.Board.view c.args.board.now) w c.args.self.now c.in-Err.ensures.2.0 c.begin_next.new.self c.in-Err.ensures.0 c.in-Err.ensures.1 post tells.0 mail sending c.in-Err.ensures.2.1 c.in-Err.ensures.2.2

pub returns-in-Err-clause-less : goal.returns-in-Err-clause-less
returns-in-Err-clause-less g c offer =
    let seat = g.B.Board.seat c.args.board.now in
    let s = g.R.Region.state c.args.region.now in
    let v = g.B.Board.view c.args.board.now in
    let before = g.B.Board.whole c.args.board.now in
    let w = c.args.self.now in
    let f = c.in-Err.ensures.2.0 in
    let looks = c.in-Err.ensures.2.1 in
    let same = looked_left s w f looks in
    lowers_ready before before w f c.begin_next.new.self (omega (arith, same))
    (short_low seat.place seat.number before before v v f c.begin_next.new.self (ap (λ (y : Worker). y.winds_down) looks.same ∙ c.in-Err.ensures.1) (short_begun seat.place seat.number before v f c.begin_next.new.self (g.met.B.Board.agrees c.args.board.now) c.in-Err.ensures.2.2))
