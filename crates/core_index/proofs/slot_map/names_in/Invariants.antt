use Rattle.std.proofs.Common.{◌≡◌, ◌++◌}
use Rattle.core_index.specs.Index.{live_names}
use Rattle.core_index.proofs.slot_map.names_in.Given as goal

abbrev pub invariant-loop-key : goal.invariant-loop-key
invariant-loop-key l = l.names.items ++ live_names l.key-iterator ≡ live_names l.slots.entries
