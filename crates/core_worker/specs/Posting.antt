-- Posting a change that needs no block.
use Rattle.std.specs.Prelude.{◌≡◌, ◌⊎◌, ℕ, true, List, length, Option}
use Rattle.pm_region.specs.Words.{lines_for}
use Rattle.log_entry.specs.declared.entry.Entry.{Entry}
use Rattle.log_entry.specs.declared.entry.Body.{Body}
use Rattle.log_entry.specs.declared.entry.Body.TheVariants as bodies
use Rattle.log_entry.specs.Spelling.{words_of}
use Rattle.pm_region.specs.State.{State}
use Rattle.group_laws.specs.Places as places
use Rattle.group_laws.specs.State.{Group}
use Rattle.group_laws.specs.Runs as runs
use Rattle.group_laws.specs.MemberViews.{View}
use Rattle.group_board.specs.Views.{after_post}
use Rattle.group_board.specs.Told.{Makes}
use Rattle.core_worker.specs.declared.types.Place.{Place}
use Rattle.core_worker.specs.declared.types.Place.TheVariants.{Free, Staged, Posted}
use Rattle.core_worker.specs.declared.worker.Worker.{Worker}
use Rattle.core_worker.specs.OwnPlaces.{place_at, Replaces}
use Rattle.core_worker.specs.Ties.{Stands}

abbrev pub PointsNowhere : Body → Type 0
PointsNowhere (bodies.Pointer q) = ⊥
PointsNowhere (bodies.Embedded u) = Unit {0}
PointsNowhere bodies.Tombstone = Unit {0}

-- a change is staged, without a block
abbrev pub HasNoBlock : Place → Type 0
HasNoBlock Free = ⊥
HasNoBlock (Staged number entry value) = PointsNowhere entry.body
HasNoBlock (Posted number key lines) = ⊥

-- a change is staged, with this block
abbrev pub IsStagedWith : Place → ℕ → Type 0
IsStagedWith Free q = ⊥
IsStagedWith (Staged number entry value) q = entry.body ≡ bodies.Pointer q
IsStagedWith (Posted number key lines) q = ⊥

-- once the change of a place is posted, the worker is tied to the region
abbrev pub WouldStand : State → places.Place → ℕ → View → Worker → ℕ → Place → Type 0
WouldStand s p m v w slot Free = ⊥
WouldStand s p m v w slot (Staged number entry value) = Stands s p m
    (after_post slot entry value v) w
WouldStand s p m v w slot (Posted number key lines) = ⊥

pub record PostsPlain (m : ℕ) (before after : Option Group) (v u : View) (old new : Worker)
    (slot : ℕ) : Type 0 where
  pub number : ℕ
  pub entry : Entry
  pub value : List ℕ
  pub was : place_at old.places.items slot ≡ Staged number entry value
  pub places : Replaces old.places.items new.places.items slot
      (Posted number entry.key (lines_for (length (words_of entry))))
  pub rest : new ≡ record old { places = new.places }
  pub view : u ≡ after_post slot entry value v
  pub whole : Makes before m (runs.Kind.Post slot entry value) after u

-- The change is posted after its block was written; or the core has stopped, and no event was made.
abbrev pub PostsOrStops : ℕ → Option Group → Option Group → View → View → Worker → Worker → ℕ
    → Type 0
PostsOrStops m before after v u old new slot =
    ((mid : Worker) × (mid ≡ record old { allocator = mid.allocator })
    × PostsPlain m before after v u mid new slot)
    ⊎ ((new ≡ record old { allocator = new.allocator; stopped = true }) × (u ≡ v)
    × (after ≡ before))
