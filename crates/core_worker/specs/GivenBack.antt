-- What a worker gives back, of which nothing is pending.
use Rattle.std.specs.Prelude.{◌≡◌, ℕ, true, length, Some, None}
use Rattle.pm_region.specs.State.{State, IsTelling}
use Rattle.core_index.specs.Index.{known_at}
use Rattle.core_index.specs.Records.{Awaits}
use Rattle.lazy_alloc.specs.Sets.{AreSets, block_is_used}
use Rattle.recover.specs.declared.types.CoreStart.{CoreStart}
use Rattle.recover.specs.Starts.{IsSpelledIndex}
use Rattle.group_laws.specs.declared.types.Block.{Block}
use Rattle.group_laws.specs.Places.{Place, core_of, owner}
use Rattle.group_laws.specs.MemberViews.{View}
use Rattle.core_worker.specs.declared.types.Cleaning.TheVariants.{Nothing}
use Rattle.core_worker.specs.declared.worker.Worker.{Worker}
use Rattle.core_worker.specs.KeyTies.{KnowsKey, IsBlockFor}
use Rattle.core_worker.specs.LogNames.{NamesStand}
use Rattle.core_worker.specs.OwnChunks.{AreChunks}
use Rattle.core_worker.specs.StandingTies.{KnowsDead}

-- its own parts, whatever the region tells
pub record GivesBack (w : Worker) (start : CoreStart) : Type 0 where
  pub core : start.core ≡ w.core
  pub log : start.log ≡ w.log
  pub allocator : start.allocator ≡ w.allocator
  pub index : start.index ≡ w.index
  pub standing : start.standing ≡ w.standing

-- The parts are those of member m, and have what its view has: exactly the view's blocks are allocated, each chunk is free, Data or the log's, the index knows each own key and has told its own core of all dead names, and who is told dead is dead in the view.
pub record IsGivenBack (p : Place) (m : ℕ) (v : View) (start : CoreStart) : Type 0 where
  pub core : start.core ≡ core_of p m
  pub log_layout : start.log.layout ≡ p.layout
  pub log_part : start.log.part ≡ core_of p m
  pub sets : AreSets start.allocator
  pub allocator_layout : start.allocator.layout ≡ p.layout
  pub allocator_part : start.allocator.part ≡ core_of p m
  pub spelled : IsSpelledIndex start.index
  pub held : (q : ℕ) (b : Block) → v.blocks q ≡ Some b
      → IsBlockFor start.allocator q (length b.bytes)
  pub only : (q : ℕ) → block_is_used start.allocator q ≡ true → (b : Block) × (v.blocks q ≡ Some b)
  pub chunks : AreChunks p.layout.chunks start.allocator start.log.chunks
  pub keys : (k : ℕ) → owner p k ≡ m → KnowsKey p v k (known_at start.index k)
  pub heard : (k n : ℕ) → Awaits (known_at start.index k) (core_of p m) n → ⊥
  pub names : KnowsDead m v.kept v.present v.told v.dead start.standing

-- Where the region tells, what stands in the log, and is told dead, is the view's.
abbrev pub NamesGiven : State → ℕ → View → CoreStart → Type 0
NamesGiven s m v start = IsTelling s
    → NamesStand s m v.kept v.present v.told v.dead start.log start.standing None Nothing
