-- What a worker begins with, where recovery gave its start.
use Rattle.std.specs.Prelude.{◌≡◌, ℕ, ◌<◌, ◌≤◌, false, [], length, None}
use Rattle.std.specs.List.{AllByRecursion}
use Rattle.std.specs.VecDeque.{deque_len}
use Rattle.group_laws.specs.declared.group_sizes.TheConstants.{SLOTS}
use Rattle.pm_region.specs.State.{State, IsTelling, cell_now}
use Rattle.pm_region.specs.Words.{Surely}
use Rattle.log_entry.specs.declared.entry_limits.TheConstants.{MOST_BATCH_WORDS}
use Rattle.chunk_map.specs.declared.layouts.Geometry.{Geometry}
use Rattle.store_image.specs.Facts.{KeepsRules}
use Rattle.core_log.specs.Log.{StandsIn}
use Rattle.lazy_alloc.specs.Written.{PartLies}
use Rattle.recover.specs.declared.types.CoreStart.{CoreStart}
use Rattle.recover.specs.Heads.{IsStartOf}
use Rattle.recover.specs.Logs.{IsStart}
use Rattle.group_laws.specs.Places.{Place, IsPlace, members, core_of}
use Rattle.group_laws.specs.MemberViews.{View, view_of}
use Rattle.group_laws.specs.OpeningImages.{opened}
use Rattle.licence.specs.Licence.{part_at, part_end}
use Rattle.core_worker.specs.declared.types.Cleaning.TheVariants.{Nothing}
use Rattle.core_worker.specs.declared.types.Place.TheVariants.{Free}
use Rattle.core_worker.specs.declared.worker.Worker.{Worker}
use Rattle.core_worker.specs.OwnPlaces.{place_at}
use Rattle.core_worker.specs.Outbox.{HasSpare, TellsNothing}
use Rattle.core_worker.specs.Hearing.{HearsAll}
use Rattle.core_worker.specs.StandingTies.{HasCopies, HearsOwn, most_names}
use Rattle.core_worker.specs.Ties.{LeadsNothing}

-- Whatever the region tells: the parts of the start are the worker's, the dead names of its own log were told, no request was accepted and nothing is led.
pub record IsNew (start : CoreStart) (layout : Geometry) (w : Worker) : Type 0 where
  pub core : w.core ≡ start.core
  pub layout_is : w.layout ≡ layout
  pub log : w.log ≡ start.log
  pub allocator : w.allocator ≡ start.allocator
  pub index : HearsAll start.core start.index w.index
  pub standing : HearsOwn start.core start.index start.standing w.standing
  pub copies : HasCopies start.standing
  pub names : most_names ≤ w.standing.room
  pub eight : length w.places.items ≡ SLOTS
  pub free : (s : ℕ) → place_at w.places.items s ≡ Free
  pub queue : w.queue ≡ []
  pub hand : w.in_hand ≡ None
  pub leading : LeadsNothing w
  pub cleaning : w.cleaning ≡ Nothing
  pub clearing : w.clearing ≡ None
  pub last_victim : w.last_victim ≡ None
  pub buffer : MOST_BATCH_WORDS ≤ w.copies.words.room
  pub members : length w.notices.items ≡ layout.group
  pub outbox : AllByRecursion TellsNothing w.notices.items
  pub spare : AllByRecursion HasSpare w.notices.items
  pub own_gone : w.own_gone.items ≡ []
  pub answers : (w.answers.items ≡ []) × (deque_len w.answers ≡ 0)
  pub runs : w.stopped ≡ false
  pub unlost : w.lost_batch ≡ false
  pub works : w.winds_down ≡ false
  pub fresh : w.accepted ≡ false

-- what member m has once its group is opened on an image
abbrev pub opened_view : Place → ℕ → (ℕ → ℕ) → View
opened_view p m image = view_of (opened p image) m

-- The start is the one that recovery gives of this image, which keeps the rules, for the core of member m.
pub record IsStartAt (p : Place) (m : ℕ) (image : ℕ → ℕ) (start : CoreStart) : Type 0 where
  pub place : IsPlace p
  pub member : m < members p
  pub rules : KeepsRules p.layout image
  pub made : IsStart p.layout (core_of p m) start
  pub found : IsStartOf p.layout image (core_of p m) start

-- by each image of which it is that, of this layout
abbrev pub ByEachImage : CoreStart → Geometry → (Place → ℕ → (ℕ → ℕ) → Type 0) → Type 0
ByEachImage start layout P = (p : Place) (m : ℕ) (image : ℕ → ℕ) → layout ≡ p.layout
    → IsStartAt p m image start → P p m image

-- The member's part lies in the region and has the image's words, each of them certain, and the log stands there.
pub record IsCertainAt (s : State) (p : Place) (m : ℕ) (image : ℕ → ℕ)
    (start : CoreStart) : Type 0 where
  pub lies : PartLies s.frame start.allocator
  pub words : IsTelling s → (w : ℕ) → part_at p m ≤ w → w < part_end p m
      → Surely (cell_now s w) (image w)
  pub log : StandsIn s start.log
