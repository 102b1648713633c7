-- Where a run begins: at a region that stands as recovery found it, with workers that are new.
use Rattle.std.specs.Prelude.{◌≡◌, ℕ, ◌/◌, ◌<◌, List, length, Some}
use Rattle.std.specs.List.{slice_get}
use Rattle.pm_region.specs.State.{State, IsTelling}
use Rattle.pm_region.specs.Words.{lasts}
use Rattle.chunk_map.specs.declared.layouts.Geometry.{Geometry}
use Rattle.recover.specs.declared.types.CoreStart.{CoreStart}
use Rattle.recover.specs.declared.types.Recovered.{Recovered}
use Rattle.recover.specs.Regions.{IsCertain}
use Rattle.recover.specs.Recovering.{IsMade, IsFound, AllStand}
use Rattle.engine_laws.specs.Stands.{Origin}
use Rattle.engine_laws.specs.Promises.{IsOrigin}
use Rattle.core_worker.specs.declared.worker.Worker.{Worker}
use Rattle.core_worker.specs.Openings.{IsNew}

-- A whole region stands with each word certain, and this is what recovery gave of the words that it reads.
pub record StandsAsFound (s : State) (word : ℕ → ℕ) (r : Recovered) : Type 0 where
  pub first : s.frame.first ≡ 0
  pub words : s.frame.words ≡ s.frame.bytes / 8
  pub certain : IsCertain s
  pub made : IsMade s.frame.bytes r
  pub found : IsFound s.frame.bytes word r
  pub stand : AllStand s r

-- A run may begin at this region: its words are those that the region reads, and those that it tells where it tells.
pub record BeginsAt (s : State) (word : ℕ → ℕ) (o : Origin) : Type 0 where
  pub is : IsOrigin o
  pub region : o.region ≡ s
  pub reads : (w : ℕ) → w < s.frame.bytes / 8 → o.found w ≡ word w
  pub tells : IsTelling s → (w : ℕ) → w < s.frame.bytes / 8 → o.found w ≡ lasts s w

-- Each worker is as it is made of the start of its core.
pub record AreNew (starts : List CoreStart) (layout : Geometry) (ws : List Worker) : Type 0 where
  pub count : length ws ≡ length starts
  pub each : (c : ℕ) (w : Worker) (start : CoreStart) → slice_get ws c ≡ Some w
      → slice_get starts c ≡ Some start → IsNew start layout w
