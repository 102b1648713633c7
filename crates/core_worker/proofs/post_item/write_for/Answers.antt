use Rattle.chunk_map.proofs.Clients.{on_ok}
use Rattle.group_board.specs.Views.{after_post}
use Rattle.licence.proofs.Clients.{block_licensed, block_outside, block_gained}
use Rattle.core_worker.proofs.PostedBlocks.{posted_gains}
use Rattle.core_worker.proofs.post_item.write_for.Goals as goal

pub returns-clause-moments : goal.returns-clause-moments
returns-clause-moments g c =
    let seat = g.B.Board.seat c.args.board.now in
    let is = c.requires.class in
    block_licensed (g.R.Region.state c.args.region.now) (g.R.Region.state c.write_value.new.region) seat.place seat.number (g.B.Board.view c.args.board.now) c.args.allocator.now c.args.pointer is.0
    (record { place = c.requires.place; sets = c.requires.sets; layout = c.requires.layout; part = c.requires.part; at = is.1; unused = c.requires.unused; head = is.3; licensed = c.requires.licensed })
    (record { outside = c.write_value.ensures.outside is.0 is.1; head = c.write_value.ensures.head is.0 is.1 })

pub returns-clause-outside : goal.returns-clause-outside
returns-clause-outside g c =
    let seat = g.B.Board.seat c.args.board.now in
    let is = c.requires.class in
    block_outside (g.R.Region.state c.args.region.now) (g.R.Region.state c.write_value.new.region) seat.place seat.number (g.B.Board.view c.args.board.now) c.args.allocator.now c.args.pointer is.0
    (record { place = c.requires.place; sets = c.requires.sets; layout = c.requires.layout; part = c.requires.part; at = is.1; unused = c.requires.unused; head = is.3; licensed = c.requires.licensed })
    (record { outside = c.write_value.ensures.outside is.0 is.1; head = c.write_value.ensures.head is.0 is.1 })

pub returns-clause-exit : goal.returns-clause-exit
returns-clause-exit g c =
    let seat = g.B.Board.seat c.args.board.now in
    let v = g.B.Board.view c.args.board.now in
    let is = c.requires.class in
    on_ok c.write_value.result _ _ (λ wrote slot e points telling. block_gained (g.R.Region.state c.args.region.now) (g.R.Region.state c.write_value.new.region) seat.place seat.number v c.args.allocator.now c.args.pointer is.0
    (record { place = c.requires.place; sets = c.requires.sets; layout = c.requires.layout; part = c.requires.part; at = is.1; unused = c.requires.unused; head = is.3; licensed = c.requires.licensed })
    (record { outside = c.write_value.ensures.outside is.0 is.1; head = c.write_value.ensures.head is.0 is.1 })
    (after_post slot e c.args.value.now v) c.write_value.new.self (record { key = e.key; bytes = c.args.value.now }) is.2 (wrote is.0 is.1) (posted_gains v slot c.args.pointer e c.args.value.now points) telling) c.write_value.ensures.ok
