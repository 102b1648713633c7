use Rattle.std.proofs.Common.{◌≡◌, ◌++◌, take}
use Rattle.log_entry.specs.Batches.{scan_of}
use Rattle.store_image.specs.Parts.{placed_in_chunk}
use Rattle.store_image.proofs.placing.place_entries.Given as goal

-- the entries so far
abbrev pub invariant-loop-x : goal.invariant-loop-x
invariant-loop-x l = l.entries.items ≡ l.fn.entries.items ++ placed_in_chunk l.part l.chunk (take l.x-index (scan_of l.payload).entries)
