use Rattle.std.proofs.Common.{◌≡◌, ℕ, zero, ◌-◌, true, false, refl, sym, ◌∙◌, ap, subst, arith}
use Rattle.group_laws.specs.MemberViews.{View}
use Rattle.group_board.specs.Seats.{SeatAt}
use Rattle.batch_leader.specs.Leading.{Collects, MakesAll, looks_upto, Went, SawPassed, PassesAt, steps_of}
use Rattle.batch_leader.proofs.Steps.{no_steps, went_true, went_false, saw_on, made_true, made_false}
use Rattle.batch_leader.proofs.SightLaws.{saw_none}
use Rattle.batch_leader.proofs.TrailLaws.{no_loads, loads_on, loads_then}
use Rattle.batch_leader.proofs.states.Collecting.collect.Goals as goal

number_of : {a b : SeatAt} → a ≡ b → a.number ≡ b.number
number_of same = ap (λ (x : SeatAt). x.number) same

pub returns-then-visit-clause-went : goal.returns-then-visit-clause-went
returns-then-visit-clause-went g c =
    let i = c.round.invariant in
    let w = g.B.Board.whole in
    let v = g.B.Board.view in
    let m = (g.B.Board.seat c.args.board.now).number in
    went_true c.args.room.now m c.args.self.now c.round.self c.visit.new.self (v c.args.board.now) (v c.round.board) (v c.visit.new.board) (w c.args.board.now) (w c.round.board) (w c.visit.new.board)
    i.low i.changes i.fresh i.own i.looked i.passed i.made c.visit.ensures.at (subst (λ (n : ℕ). Went true (w c.round.board) c.args.room.now n (v c.round.board) (v c.visit.new.board) c.round.self c.visit.new.self) (number_of i.sits) c.if-visit.ensures.went)

pub returns-then-visit-clause-made : goal.returns-then-visit-clause-made
returns-then-visit-clause-made g c =
    let i = c.round.invariant in
    let w = g.B.Board.whole in
    let v = g.B.Board.view in
    let m = (g.B.Board.seat c.args.board.now).number in
    made_true c.args.room.now m c.args.self.now c.round.self c.visit.new.self (v c.args.board.now) (v c.round.board) (v c.visit.new.board) (w c.args.board.now) (w c.round.board) (w c.visit.new.board)
    i.low i.changes i.fresh i.own i.looked i.passed i.made c.visit.ensures.at (subst (λ (n : ℕ). MakesAll (w c.round.board) (steps_of true n c.round.self c.visit.new.self) (w c.visit.new.board) n (v c.visit.new.board)) (number_of i.sits) c.if-visit.ensures.made)

pub round-preserved : goal.round-preserved
round-preserved g c =
    let i = c.round.invariant in
    let w = g.B.Board.whole in
    let v = g.B.Board.view in
    let m = (g.B.Board.seat c.args.board.now).number in
    let seat = c.visit.ensures.seat in
    let went = went_false c.args.room.now m c.args.self.now c.round.self c.visit.new.self (v c.args.board.now) (v c.round.board) (v c.visit.new.board) (w c.args.board.now) (w c.round.board) (w c.visit.new.board)
    i.low i.changes i.fresh i.own i.looked i.passed i.made c.visit.ensures.at (subst (λ (n : ℕ). Went false (w c.round.board) c.args.room.now n (v c.round.board) (v c.visit.new.board) c.round.self c.visit.new.self) (number_of i.sits) c.if-visit.ensures.went) in
    let made = made_false c.args.room.now m c.args.self.now c.round.self c.visit.new.self (v c.args.board.now) (v c.round.board) (v c.visit.new.board) (w c.args.board.now) (w c.round.board) (w c.visit.new.board)
    i.low i.changes i.fresh i.own i.looked i.passed i.made c.visit.ensures.at (subst (λ (n : ℕ). MakesAll (w c.round.board) (steps_of false n c.round.self c.visit.new.self) (w c.visit.new.board) n (v c.visit.new.board)) (number_of i.sits) c.if-visit.ensures.made) in
    record {
      sits = seat ∙ i.sits;
      collects = subst (λ (x : SeatAt). Collects x (v c.visit.new.board) c.visit.new.self) i.sits c.visit.ensures.collects;
      broken = ap (λ (x : View). x.broken) went.0.view.1 ∙ c.requires.whole;
      suits = c.visit.ensures.suits;
      low = (let a = i.low in let b = c.visit.ensures.at in omega (arith, a, b));
      changes = went.0.changes;
      fresh = went.0.fresh;
      own = went.0.own;
      looked = went.0.view;
      passed = went.1;
      saw = saw_on c.args.room.now m c.args.self.now c.round.self c.visit.new.self (v c.args.board.now) (v c.round.board) (v c.visit.new.board) (w c.args.board.now) (w c.round.board) (w c.visit.new.board)
          i.low i.changes i.fresh i.own i.looked i.passed i.made c.visit.ensures.at i.saw (subst (λ (n : ℕ). SawPassed c.args.room.now n (v c.round.board) (v c.visit.new.board) c.round.self c.visit.new.self) (number_of i.sits) (c.if-visit.ensures.seen refl));
      trail = loads_on _ _ _ _ _ _ i.trail c.if-visit.ensures.steps;
      made = made;
    }

pub round-init : goal.round-init
round-init g c =
    let w = g.B.Board.whole in
    let v = g.B.Board.view in
    let m = (g.B.Board.seat c.args.board.now).number in
    let none : c.args.self.now.at - c.args.self.now.at ≡ zero = omega arith in
    record {
      sits = refl;
      collects = c.requires.collects;
      broken = c.requires.whole;
      suits = c.requires.suits;
      low = omega arith;
      changes = refl;
      fresh = refl;
      own = refl;
      looked = ((v c.args.board.now).looked, refl);
      passed = λ i ge lt. absurd (omega (arith, ge, lt));
      saw = saw_none (v c.args.board.now) m c.args.self.now.at (PassesAt c.args.room.now m c.args.self.now);
      trail = no_loads (v c.args.board.now) (g.B.Board.trail c.args.board.now);
      made = subst (λ (n : ℕ). MakesAll (w c.args.board.now) (looks_upto m c.args.self.now.at n) (w c.args.board.now) m (v c.args.board.now)) (sym none) (no_steps (w c.args.board.now) m (g.B.Board.seat c.args.board.now).place (v c.args.board.now) (g.met.B.Board.agrees c.args.board.now));
    }

pub returns-then-visit-clause-steps : goal.returns-then-visit-clause-steps
returns-then-visit-clause-steps g c = loads_then _ _ _ _ _ _ c.round.invariant.trail c.if-visit.ensures.steps
