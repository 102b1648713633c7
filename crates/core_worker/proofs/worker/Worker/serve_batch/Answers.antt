-- Items 2 and 3 of a turn.
use Rattle.std.proofs.Common.{◌≡◌, Bool, true, false, refl, sym, ◌∙◌, ap, subst}
use Rattle.core_worker.specs.declared.worker.Worker.{Worker}
use Rattle.core_worker.specs.Turns.{MadeOrStops}
use Rattle.core_worker.specs.Order.{MayLeadStopped}
use Rattle.core_worker.specs.Turning.{at_entry}
use Rattle.core_worker.specs.Turning.Did.{writes, marks, fails}
use Rattle.core_worker.proofs.QuietItems.{marks_filled, fails_filled, marks_led, fails_led, fails_stops}
use Rattle.core_worker.proofs.TurnLaws.{keeps_leading, keeps_batch}
use Rattle.core_worker.proofs.LeftFair.{fails_starts, marks_starts, writes_starts}
use Rattle.core_worker.proofs.LeftItems.{renewed_lowers}
use Rattle.core_worker.proofs.Renewing.{renewed_holds, renewed_stands, renewed_room, batch_renewed}
use Rattle.core_worker.proofs.SentTurns.{awake_before, works_on}
use Rattle.core_worker.proofs.worker.Worker.serve_batch.Goals as goal

runs_still : (b : Bool) → (b ≡ true → ⊥) → b ≡ false
runs_still true no_stop = absurd (no_stop refl)
runs_still false no_stop = refl

pub write_batch-requires-clause-names : goal.write_batch-requires-clause-names
write_batch-requires-clause-names g c on = c.requires.tied.order.names (runs_still c.args.self.now.stopped (λ stopped. subst MayLeadStopped c.in-Batch.is (c.requires.tied.order.stops stopped))) on

pub returns-in-Batch-clause-serves : goal.returns-in-Batch-clause-serves
returns-in-Batch-clause-serves g c passes =
    let seat = g.B.Board.seat c.args.board.now in
    let s = g.R.Region.state c.args.region.now in
    let t = g.R.Region.state c.write_batch.new.region in
    let before = g.B.Board.whole c.args.board.now in
    let after = g.B.Board.whole c.write_batch.new.board in
    let v = g.B.Board.view c.args.board.now in
    let u = g.B.Board.view c.write_batch.new.board in
    let w = c.args.self.now in
    let y = c.write_batch.new.self in
    let x = c.renew_names.new.self in
    let e = c.write_batch.ensures in
    let n = c.renew_names.ensures in
    let same = ap (λ (z : Worker). z.stopped) n.rest in
    let persists = batch_renewed seat.number (at_entry w v) y x u n.rest n.names n.count n.winds n.still e.persists in
    record {
      seat = e.seat;
      keeps =
          keeps_batch seat s t before after v u w x
          c.requires.tied.holds (renewed_holds seat.place seat.number u y x n.rest n.winds n.names e.holds) (renewed_stands t seat.place seat.number u y x n.rest n.winds n.names e.stands) c.requires.tied.order
          (runs_still w.stopped (λ stopped. subst MayLeadStopped c.in-Batch.is (c.requires.tied.order.stops stopped))) n.room
          e.moments e.outside persists
          (subst (λ (b : Bool). MadeOrStops b before after seat.number v u) (sym same) e.made) (λ stopped. e.cause (sym same ∙ stopped))
          (λ runs kept. renewed_room y x n.rest n.winds n.names (e.rule (sym same ∙ runs) kept));
      memory = n.memory;
      awake = awake_before c.renew_names.result y.winds_down w.winds_down e.works n.awake;
      starts = writes_starts seat.number (at_entry w v) (at_entry x u) persists;
      works = works_on c.renew_names.result x.winds_down y.winds_down w.winds_down e.works n.works;
      steps = e.steps passes;
    }

pub returns-in-Persisted-clause-serves : goal.returns-in-Persisted-clause-serves
returns-in-Persisted-clause-serves g c passes =
    let s = g.R.Region.state c.args.region.now in
    let v = g.B.Board.view c.args.board.now in
    let u = g.B.Board.view c.mark_next.new.board in
    let w = c.args.self.now in
    let x = c.mark_next.new.self in
    let e = c.mark_next.ensures in
    record {
      seat = e.seat;
      keeps =
          keeps_leading (g.B.Board.seat c.args.board.now) s (g.B.Board.whole c.args.board.now) (g.B.Board.whole c.mark_next.new.board) v u w x
          e.holds e.stands c.requires.tied.stands e.made (marks_led (at_entry w v) (at_entry x u) e.marks) e.marks.same
          (λ stopped. absurd (subst MayLeadStopped c.in-Persisted.is (c.requires.tied.order.stops stopped))) c.requires.tied.order e.rule (marks_filled (at_entry w v) (at_entry x u) e.marks);
      memory = tt;
      awake = tt;
      starts = marks_starts (at_entry w v) (at_entry x u) e.marks;
      works = ap (λ (z : Worker). z.winds_down) e.marks.same;
      steps = e.steps passes s;
    }

pub returns-in-Failed-clause-serves : goal.returns-in-Failed-clause-serves
returns-in-Failed-clause-serves g c passes =
    let s = g.R.Region.state c.args.region.now in
    let v = g.B.Board.view c.args.board.now in
    let u = g.B.Board.view c.fail_next.new.board in
    let w = c.args.self.now in
    let x = c.fail_next.new.self in
    let e = c.fail_next.ensures in
    record {
      seat = e.seat;
      keeps =
          keeps_leading (g.B.Board.seat c.args.board.now) s (g.B.Board.whole c.args.board.now) (g.B.Board.whole c.fail_next.new.board) v u w x
          e.holds e.stands c.requires.tied.stands e.made (fails_led (at_entry w v) (at_entry x u) e.fails) e.fails.same
          (λ stopped. fails_stops (at_entry w v) (at_entry x u) e.fails) c.requires.tied.order e.rule (fails_filled (at_entry w v) (at_entry x u) e.fails);
      memory = tt;
      awake = tt;
      starts = fails_starts (at_entry w v) (at_entry x u) e.fails;
      works = ap (λ (z : Worker). z.winds_down) e.fails.same;
      steps = e.steps passes s;
    }

pub returns-in-Batch-clause-did : goal.returns-in-Batch-clause-did
returns-in-Batch-clause-did g c refused =
    let n = c.renew_names.ensures in
    writes (batch_renewed (g.B.Board.seat c.args.board.now).number (record { worker = c.args.self.now; view = g.B.Board.view c.args.board.now }) c.write_batch.new.self c.renew_names.new.self (g.B.Board.view c.write_batch.new.board) n.rest n.names n.count n.winds n.still c.write_batch.ensures.persists)

pub returns-in-Batch-clause-less : goal.returns-in-Batch-clause-less
returns-in-Batch-clause-less g c =
    let n = c.renew_names.ensures in
    renewed_lowers (g.B.Board.whole c.args.board.now) (g.B.Board.whole c.write_batch.new.board) c.args.self.now c.write_batch.new.self c.renew_names.new.self n.rest n.count n.winds c.write_batch.ensures.less

pub returns-in-Persisted-clause-did : goal.returns-in-Persisted-clause-did
returns-in-Persisted-clause-did g c refused = marks refl c.mark_next.ensures.marks

pub returns-in-Failed-clause-did : goal.returns-in-Failed-clause-did
returns-in-Failed-clause-did g c refused = fails refl c.fail_next.ensures.fails
