-- The turn that dooms the names that vanish with a cleaned chunk.
use Rattle.std.proofs.Common.{[], ◌∷◌, Some, refl, sym}
use Rattle.group_laws.specs.Runs as runs
use Rattle.group_board.specs.Trails.{step_with}
use Rattle.core_worker.specs.declared.types.Cleaning.TheVariants.{Doomed}
use Rattle.core_worker.specs.DoomsNames.{DoomsIn}
use Rattle.core_worker.specs.Turning.Did.{dooms}
use Rattle.core_worker.proofs.DoomedItem as doomed
use Rattle.core_worker.proofs.LeftFair.{starts_nothing}
use Rattle.core_worker.proofs.Made.{one_step}
use Rattle.core_worker.proofs.worker.Worker.doom.Goals as goal

pub doom_chunk-requires-clause-may : goal.doom_chunk-requires-clause-may
doom_chunk-requires-clause-may g c =
    let seat = g.B.Board.seat c.args.board.now in
    let s = g.R.Region.state c.args.region.now in
    let v = g.B.Board.view c.args.board.now in
    let w = c.args.self.now in
    let H = c.requires.tied.holds in
    let S = c.requires.tied.stands in
    let O = c.requires.tied.order in
    let z = c.args.victim.now in
    let y = c.in-Some.clearing in
    let is = sym c.in-Some.ensures.value in
    record {
      stands = doomed.stands s seat.place seat.number v w H S O z c.requires.copied;
      has = doomed.has_chunk s seat.place seat.number v w H S O z c.requires.copied y is;
      fresh = doomed.fresh s seat.place seat.number v w H S O z c.requires.copied y is;
      room = doomed.room s seat.place seat.number v w H S O z c.requires.copied y is;
      member = H.member;
      told = doomed.told s seat.place seat.number v w H S O z c.requires.copied;
      idle = doomed.flying s seat.place seat.number v w H S O z c.requires.copied;
    }

pub doom_chunk-requires-clause-places : goal.doom_chunk-requires-clause-places
doom_chunk-requires-clause-places g c =
    let seat = g.B.Board.seat c.args.board.now in
    doomed.places (g.R.Region.state c.args.region.now) seat.place seat.number (g.B.Board.view c.args.board.now) c.args.self.now c.requires.tied.holds c.requires.tied.stands c.requires.tied.order c.args.victim.now c.requires.copied c.in-Some.clearing (sym c.in-Some.ensures.value)

pub returns : goal.returns
returns g c =
    let seat = g.B.Board.seat c.args.board.now in
    let s = g.R.Region.state c.args.region.now in
    let v = g.B.Board.view c.args.board.now in
    let u = g.B.Board.view c.doom_chunk.new.board in
    let w = c.args.self.now in
    let x = record w { cleaning = Doomed c.args.victim.now.chunk; clearing = Some c.doom_chunk.new.clearing; own_gone = c.doom_chunk.new.own } in
    let D : DoomsIn s seat.place seat.number v u w x = doomed.dooms_in s seat.place seat.number v w c.requires.tied.holds c.requires.tied.stands c.requires.tied.order c.args.victim.now c.requires.copied c.in-Some.clearing (sym c.in-Some.ensures.value) u x c.doom_chunk.new.clearing refl c.doom_chunk.ensures.doomed.chunk c.doom_chunk.ensures.doomed.lone c.doom_chunk.ensures.doomed.noted c.doom_chunk.ensures.doomed.few c.doom_chunk.ensures.places c.doom_chunk.ensures.doomed.gathered c.doom_chunk.ensures.owned c.doom_chunk.ensures.doomed.view refl in
    let before = g.B.Board.whole c.args.board.now in
    let after = g.B.Board.whole c.doom_chunk.new.board in
    let kind = runs.Kind.Doom c.doom_chunk.new.clearing.doomed in
    record {
      seat = c.doom_chunk.ensures.seat;
      keeps = doomed.keeps_doomed seat s before after v u w x c.requires.tied.holds c.requires.tied.stands c.requires.tied.order D (kind ∷ [], one_step before after seat.number kind u c.doom_chunk.ensures.made);
      did = λ refused start from entry passed passes mail sending. dooms refl (record { mid = v; before = passes; post = passed; mail = mail; ready = w; sending = sending; dooms = D });
      less =
          doomed.doomed_lower (g.B.Board.whole c.args.board.now) (g.B.Board.whole c.doom_chunk.new.board) seat.number c.doom_chunk.new.clearing.doomed u w x c.doom_chunk.ensures.made (g.met.B.Board.lawful c.args.board.now)
          (doomed.doomed_less s seat.place seat.number v u w x c.requires.tied.holds c.requires.tied.order D);
      starts = starts_nothing x D.idle;
      works = refl;
      steps = λ passes. record { made = step_with (runs.Kind.Doom c.doom_chunk.new.clearing.doomed) (g.B.Board.view c.doom_chunk.new.board) ∷ []; more = c.doom_chunk.ensures.steps.0; loads = tt; ends = refl; last = record { handed = λ _. c.doom_chunk.ensures.steps.1; alone = λ _ no. absurd (cc no) }; asks = λ no. absurd (cc no) };
    }
