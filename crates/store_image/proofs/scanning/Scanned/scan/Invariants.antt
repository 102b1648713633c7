use Rattle.std.proofs.Common.{◌≡◌, ◌++◌, ◌-◌, ◌≤◌, drop, length, map, true}
use Rattle.log_entry.specs.Batches.{scan, scan_of}
use Rattle.store_image.specs.Scanned.{name_at}
use Rattle.store_image.proofs.scanning.Scanned.scan.Given as goal

-- the entries so far, and those of the rest
abbrev pub invariant-loop-place : goal.invariant-loop-place
invariant-loop-place l = record {
  entries : l.self.entries.items ++ map name_at (scan l.place 0 l.padded (drop l.place l.payload)).entries ≡ map name_at (scan_of l.payload).entries;
  rest : (scan l.place 0 l.padded (drop l.place l.payload)).whole ≡ (scan_of l.payload).whole;
  whole : l.self.whole ≡ true;
  within : l.place ≤ length l.payload;
}

abbrev pub decreases-loop-place : goal.decreases-loop-place
decreases-loop-place l = length l.payload - l.place
