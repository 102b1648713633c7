use Rattle.std.proofs.Common.{◌≡◌, ℕ, ◌<◌, true, Some}
use Rattle.std.specs.Prelude.{slice_index_or}
use Rattle.std.specs.Ordering.{nat_cmp}
use Rattle.std.specs.BTreeSet.{contains}
use Rattle.core_index.specs.Records.{live_version}
use Rattle.core_index.specs.Index.{known_at}
use Rattle.recover.specs.declared.types.CoreStart.{CoreStart}
use Rattle.recover.proofs.pair_list.live_keys.Given as goal

-- the live keys of the cores so far
abbrev pub invariant-loop-start : goal.invariant-loop-start
invariant-loop-start l = (c k v : ℕ) (d : CoreStart) → c < l.start-index → live_version (known_at (slice_index_or l.starts c d).index k) ≡ Some v → contains nat_cmp l.keys k ≡ true
