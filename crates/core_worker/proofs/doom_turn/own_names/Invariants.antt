use Rattle.std.proofs.Common.{◌≡◌, ◌≤◌, ◌==◌, length, vec_capacity, take}
use Rattle.std.specs.List.{filter}
use Rattle.chunk_map.specs.Layouts.{owner}
use Rattle.log_entry.specs.declared.entry.EntryName.{EntryName}
use Rattle.core_worker.proofs.doom_turn.own_names.Given as goal

abbrev pub invariant-loop-name : goal.invariant-loop-name
invariant-loop-name l = (l.own.items ≡ filter (λ (x : EntryName). owner l.layout x.key == l.core) (take l.name-index l.names))
    × (length l.names ≤ vec_capacity l.own)
    × (vec_capacity l.fn.own ≤ vec_capacity l.own)
