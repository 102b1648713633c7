use Rattle.std.proofs.Common.{length}
use Rattle.range_scan.proofs.keys_of_cores.+live_keys.Given as goal

abbrev pub decreases-live_keys : goal.decreases-live_keys
decreases-live_keys l = length l.starts.now
