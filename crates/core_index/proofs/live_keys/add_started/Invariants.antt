use Rattle.std.proofs.Common.{◌≡◌, ◌++◌, take}
use Rattle.core_index.specs.Listing.{start_names}
use Rattle.core_index.proofs.live_keys.add_started.Given as goal

abbrev pub invariant-loop-live : goal.invariant-loop-live
invariant-loop-live l = l.names.items ≡ l.initial.names.items ++ start_names l.slots.entries (take l.live-index l.items)
