use Rattle.std.proofs.Common.{◌≡◌, ◌++◌, ℕ, ◌<◌, ◌≤◌, List, length}
use Rattle.std.specs.Prelude.{slice_index_or}
use Rattle.pm_region.specs.State.{IsTelling}
use Rattle.pm_region.specs.Words.{lasts}
use Rattle.store_image.specs.Parts.{all_entries}
use Rattle.store_image.specs.Facts.{KeepsRules}
use Rattle.recover.specs.declared.types.CoreStart.{CoreStart}
use Rattle.log_standing.specs.Notes.{Noted}
use Rattle.recover.specs.Shares.{AreShares}
use Rattle.recover.specs.LogNames.{AreNames}
use Rattle.recover.specs.Logs.{IsStart}
use Rattle.recover.specs.Heads.{IsStartOf}
use Rattle.recover.proofs.starts.starts.Given as goal

-- the starts of the cores so far
abbrev pub invariant-loop-share : goal.invariant-loop-share
invariant-loop-share g l = record {
  split : l.fn.shares.items ≡ l.yielded ++ l.share-iterator.rest.items;
  passed : length l.yielded ≡ l.core;
  count : length l.starts.items ≡ l.core;
  made : (c : ℕ) (d : CoreStart) → c < l.core → IsStart l.layout c (slice_index_or l.starts.items c d);
  length_left : length l.left.items ≡ l.layout.cores;
  untaken : (c : ℕ) (d : List Noted) → l.core ≤ c → slice_index_or l.left.items c d ≡ slice_index_or l.fn.names.items c d;
  told : IsTelling (g.R.Region.state l.region) → KeepsRules l.layout (lasts (g.R.Region.state l.region)) → AreShares l.layout (all_entries l.layout (lasts (g.R.Region.state l.region))) l.fn.shares.items → AreNames l.layout (lasts (g.R.Region.state l.region)) l.fn.names.items
      → (c : ℕ) (d : CoreStart) → c < l.core → IsStartOf l.layout (lasts (g.R.Region.state l.region)) c (slice_index_or l.starts.items c d);
}
