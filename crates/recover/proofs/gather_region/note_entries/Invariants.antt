use Rattle.std.proofs.Common.{◌≡◌, ◌++◌, map, take}
use Rattle.recover.specs.FoundEntries.{found_in}
use Rattle.recover.proofs.gather_region.note_entries.Given as goal

-- the entries so far
abbrev pub invariant-loop-x : goal.invariant-loop-x
invariant-loop-x l = l.found.items ≡ l.fn.found.items ++ map (found_in l.first) (take l.x-index l.entries)
