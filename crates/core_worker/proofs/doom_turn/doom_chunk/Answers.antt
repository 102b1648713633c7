-- The names that vanish are doomed, and the own ones noted.
use Rattle.std.proofs.Common.{◌==◌, ◌∙◌}
use Rattle.std.specs.List.{filter}
use Rattle.log_entry.specs.declared.entry.EntryName.{EntryName}
use Rattle.chunk_map.specs.Layouts as layouts
use Rattle.core_worker.proofs.Dooming.{owned_names}
use Rattle.core_worker.proofs.doom_turn.doom_chunk.Goals as goal

pub returns-clause-owned : goal.returns-clause-owned
returns-clause-owned g c =
    let seat = g.B.Board.seat c.args.board.now in
    let names = c.doomed_of.ensures in
    owned_names seat.place seat.number c.doom_names.new.clearing.doomed c.own_names.new.own.items c.requires.place c.requires.may.member
    (c.own_names.ensures.own
    ∙ (λ i. filter (λ (x : EntryName). layouts.owner (c.requires.layout i) x.key == c.requires.core i) (names i)))
