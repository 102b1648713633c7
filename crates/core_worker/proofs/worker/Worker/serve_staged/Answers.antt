-- The lowest staged change is posted, or answered by a stopped core, or the lock is tried.
use Rattle.std.proofs.Common.{Bool, refl, sym, subst}
use Rattle.std.specs.Prelude.{is_ok}
use Rattle.core_worker.specs.Turning.Did.{drops}
use Rattle.core_worker.proofs.TurnLaws.{posts_did}
use Rattle.core_worker.proofs.ItemLaws.{keeps_drop}
use Rattle.core_worker.proofs.LeftTurns.{dropped_starts, posted_starts, posted_works}
use Rattle.core_worker.proofs.LeftItems.{posts_lower}
use Rattle.std.proofs.Common.{arith}
use Rattle.batch_leader.proofs.Clients.{no_loads, turn_of_loads}
use Rattle.batch_leader.specs.TurnSteps.{TurnSteps, trail_with}
use Rattle.core_worker.proofs.worker.Worker.serve_staged.Goals as goal

pub returns-in-Pass-clause-serves : goal.returns-in-Pass-clause-serves
returns-in-Pass-clause-serves g c = c.serve_mail.ensures.serves (g.G.Gate.may_pass c.args.gate.now)

pub returns-in-Pass-clause-turned : goal.returns-in-Pass-clause-turned
returns-in-Pass-clause-turned g c before v tells = c.serve_mail.ensures.turned (g.G.Gate.may_refuse c.args.gate.now) before v c.in-Pass.ensures tells

pub returns-in-Post-clause-turned : goal.returns-in-Post-clause-turned
returns-in-Post-clause-turned g c before v tells =
    let seat = g.B.Board.seat c.args.board.now in
    let chosen = c.in-Post.ensures in
    posts_did (g.R.Region.state c.args.region.now) (g.R.Region.state c.post.new.region) (g.G.Gate.may_refuse c.args.gate.now) seat before (g.B.Board.whole c.args.board.now) (g.B.Board.whole c.post.new.board) v (g.B.Board.view c.args.board.now) (g.B.Board.view c.post.new.board) c.args.self.now c.post.new.self c.in-Post.slot
    tells.0 chosen.0 chosen.2 chosen.3 c.post.ensures.posts c.post.ensures.plain c.post.ensures.calm

pub drop_staged-requires-clause-tied : goal.drop_staged-requires-clause-tied
drop_staged-requires-clause-tied g c =
    let seat = g.B.Board.seat c.args.board.now in
    (record { place = seat.place; number = seat.number; view = g.B.Board.view c.args.board.now }, c.requires.may.tied)

pub returns-in-Ok-clause-serves : goal.returns-in-Ok-clause-serves
returns-in-Ok-clause-serves g c =
    let seat = g.B.Board.seat c.args.board.now in
    let v = g.B.Board.view c.args.board.now in
    let s = g.R.Region.state c.args.region.now in
    let w = c.args.self.now in
    let x = c.drop_staged.new.self in
    let chosen = c.in-Drop.ensures in
    let may = c.requires.may in
    let e = c.drop_staged.ensures in
    record {
      seat = refl;
      keeps =
          keeps_drop seat s (g.B.Board.whole c.args.board.now) v w x c.in-Drop.slot (is_ok c.drop_staged.result) chosen.1 chosen.2 may.tied.holds may.tied.stands may.tied.order (g.met.B.Board.agrees c.args.board.now)
          (e.ties s (record { place = seat.place; number = seat.number; view = v }) may.tied) e.rule e.drops;
      memory = tt;
      awake = tt;
      starts = dropped_starts s c.in-Drop.slot w x _ may.nothing e.drops;
      works = c.in-Ok.ensures.works;
      steps = turn_of_loads (g.G.Gate.may_pass c.args.gate.now) s s _ _ _ _ _ _ (no_loads v (g.B.Board.trail c.args.board.now));
    }

pub returns-in-Ok-clause-turned : goal.returns-in-Ok-clause-turned
returns-in-Ok-clause-turned g c before v tells =
    let chosen = c.in-Drop.ensures in
    drops refl (is_ok c.drop_staged.result) (record {
      slot = c.in-Drop.slot;
      mid = g.B.Board.view c.args.board.now;
      before = tells.0;
      stopped = chosen.2;
      works = chosen.3;
      lowest = chosen.0;
      drops = c.drop_staged.ensures.drops;
      view = refl;
    })

pub returns-in-Err-clause-serves : goal.returns-in-Err-clause-serves
returns-in-Err-clause-serves g c =
    let seat = g.B.Board.seat c.args.board.now in
    let v = g.B.Board.view c.args.board.now in
    let s = g.R.Region.state c.args.region.now in
    let w = c.args.self.now in
    let x = c.drop_staged.new.self in
    let chosen = c.in-Drop.ensures in
    let may = c.requires.may in
    let e = c.drop_staged.ensures in
    record {
      seat = refl;
      keeps =
          keeps_drop seat s (g.B.Board.whole c.args.board.now) v w x c.in-Drop.slot (is_ok c.drop_staged.result) chosen.1 chosen.2 may.tied.holds may.tied.stands may.tied.order (g.met.B.Board.agrees c.args.board.now)
          (e.ties s (record { place = seat.place; number = seat.number; view = v }) may.tied) e.rule e.drops;
      memory = c.in-Err.ensures.memory;
      awake = c.in-Err.ensures.awake;
      starts = dropped_starts s c.in-Drop.slot w x _ may.nothing e.drops;
      works = tt;
      steps = turn_of_loads (g.G.Gate.may_pass c.args.gate.now) s s _ _ _ _ _ _ (no_loads v (g.B.Board.trail c.args.board.now));
    }

pub returns-in-Err-clause-turned : goal.returns-in-Err-clause-turned
returns-in-Err-clause-turned g c before v tells =
    let chosen = c.in-Drop.ensures in
    drops refl (is_ok c.drop_staged.result) (record {
      slot = c.in-Drop.slot;
      mid = g.B.Board.view c.args.board.now;
      before = tells.0;
      stopped = chosen.2;
      works = chosen.3;
      lowest = chosen.0;
      drops = c.drop_staged.ensures.drops;
      view = refl;
    })

pub returns-in-Post-clause-less : goal.returns-in-Post-clause-less
returns-in-Post-clause-less g c offer =
    let chosen = c.in-Post.ensures in
    posts_lower (g.B.Board.whole c.args.board.now) (g.B.Board.whole c.post.new.board) (g.B.Board.seat c.args.board.now).number (g.B.Board.view c.args.board.now) (g.B.Board.view c.post.new.board) c.args.self.now c.post.new.self c.in-Post.slot chosen.2 (let lt = chosen.1 in let eight = c.requires.may.tied.holds.eight in omega (arith, lt, eight)) c.post.ensures.posts (g.met.B.Board.lawful c.args.board.now)

pub returns-in-Post-clause-serves : goal.returns-in-Post-clause-serves
returns-in-Post-clause-serves g c =
    let s = g.R.Region.state c.args.region.now in
    let t = g.R.Region.state c.post.new.region in
    let v = g.B.Board.view c.args.board.now in
    let u = g.B.Board.view c.post.new.board in
    let w = c.args.self.now in
    let x = c.post.new.self in
    let e = c.post.ensures in
    let old = trail_with (g.B.Board.trail c.args.board.now) (g.B.Board.at c.args.board.now) in
    let new = trail_with (g.B.Board.trail c.post.new.board) (g.B.Board.at c.post.new.board) in
    record {
      seat = e.seat;
      keeps = e.keeps;
      memory = tt;
      awake = tt;
      starts = posted_starts _ _ _ _ _ w x c.in-Post.slot c.requires.may.nothing e.posts;
      works = posted_works _ _ _ _ _ w x c.in-Post.slot e.posts;
      steps = subst (λ (b : Bool). TurnSteps b s t v u old new) (sym c.in-Post.ensures.4) e.steps;
    }
