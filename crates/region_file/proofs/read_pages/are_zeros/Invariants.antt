use Rattle.std.proofs.Common.{ℕ, ◌≤◌, ◌<◌}
use Rattle.pm_region.specs.Bytes.{word_at}
use Rattle.region_file.proofs.read_pages.are_zeros.Given as goal

abbrev pub invariant-loop-place : goal.invariant-loop-place
invariant-loop-place l = (k : ℕ) → k < l.place → word_at l.bytes k ≤ l.bits
