-- Where a run began.
use Rattle.std.specs.Prelude.{ℕ, List, Option}
use Rattle.pm_region.specs.State.{State}
use Rattle.chunk_map.specs.Layouts.{layout_of}
use Rattle.store_image.specs.Winners.{recovered}
use Rattle.headline.specs.Ample.{free_chunks}
use Rattle.engine_laws.specs.FreeStock.{Stock}

-- where it began: the region, and its words, each of which was certain
pub record Origin : Type 0 where
  pub region : State
  pub found : ℕ → ℕ

-- what the words found recover
abbrev pub start_of : Origin → ℕ → Option (List ℕ)
start_of o k = recovered (layout_of o.found) o.found k

-- what a core has free at first: the chunks that the words found say are free
abbrev pub stock_found : Origin → ℕ → Stock
stock_found o c = record {
  chunks = free_chunks (layout_of o.found) o.found c;
  lines = 0;
  blocks = λ class. 0;
}
