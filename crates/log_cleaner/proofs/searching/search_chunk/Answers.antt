use Rattle.std.proofs.Common.{◌∙◌}
use Rattle.log_cleaner.proofs.ChoiceLaws.{fits_as, read_fits, read_past}
use Rattle.log_cleaner.proofs.SearchLaws.{floors_searched}
use Rattle.log_cleaner.proofs.searching.search_chunk.Goals as goal

pub returns-clause-floors : goal.returns-clause-floors
returns-clause-floors g c = λ telling had.
    floors_searched (g.R.Region.state c.args.region.now) c.args.log.now c.args.standing.now c.begin_reading-stops.new.standing c.read_chunk-alone.new.standing c.note_floor.new.self c.args.room.now c.args.chunk c.read_chunk-alone.result.0 c.read_chunk-alone.result.1 (c.requires.standing telling) c.begin_reading-stops.ensures c.read_chunk-alone.ensures.same c.read_chunk-alone.ensures.floors (c.read_chunk-alone.ensures.read telling)
    (record { has = c.requires.has; closed = c.requires.closed }) c.note_floor.ensures.rest c.amount_of.ensures c.note_floor.ensures.floors had

pub returns-then-has_room-clause-floors : goal.returns-then-has_room-clause-floors
returns-then-has_room-clause-floors g c = λ telling had.
    floors_searched (g.R.Region.state c.args.region.now) c.args.log.now c.args.standing.now c.begin_reading-stops.new.standing c.read_chunk-alone.new.standing c.note_floor.new.self c.args.room.now c.args.chunk c.read_chunk-alone.result.0 c.read_chunk-alone.result.1 (c.requires.standing telling) c.begin_reading-stops.ensures c.read_chunk-alone.ensures.same c.read_chunk-alone.ensures.floors (c.read_chunk-alone.ensures.read telling)
    (record { has = c.requires.has; closed = c.requires.closed }) c.note_floor.ensures.rest c.amount_of.ensures c.note_floor.ensures.floors had

pub returns-clause-tells : goal.returns-clause-tells
returns-clause-tells g c = λ telling.
    read_past (g.R.Region.state c.args.region.now) c.args.log.now c.args.standing.now c.begin_reading-stops.new.standing c.read_chunk-alone.new.standing c.args.room.now c.args.chunk c.read_chunk-alone.result.0 c.read_chunk-alone.result.1 c.begin_reading-stops.ensures (c.read_chunk-alone.ensures.read telling)
    (fits_as c.args.room.now c.read_chunk-alone.result.0 c.copy_lines.result c.has_room.result c.copy_lines.ensures c.has_room.ensures ∙ c.if-has_room.false)

pub returns-then-has_room-clause-tells : goal.returns-then-has_room-clause-tells
returns-then-has_room-clause-tells g c = λ telling.
    read_fits (g.R.Region.state c.args.region.now) c.args.log.now c.args.standing.now c.begin_reading-stops.new.standing c.read_chunk-alone.new.standing c.args.room.now c.args.chunk c.read_chunk-alone.result.0 c.read_chunk-alone.result.1 c.begin_reading-stops.ensures (c.read_chunk-alone.ensures.read telling)
    c.requires.has c.requires.closed (fits_as c.args.room.now c.read_chunk-alone.result.0 c.copy_lines.result c.has_room.result c.copy_lines.ensures c.has_room.ensures ∙ c.if-has_room.true)
