-- How often a call opens its region, and what it leaves of one that it doesn't open.
use Rattle.std.specs.Prelude.{◌≡◌, ◌⊎◌, ℕ, Bool, true, false}
use Rattle.pm_region.specs.State.{State, Over, Rose, Faulted}
use Rattle.pm_region.specs.Split.{Attached, Stays, IsOpenedOnceMore, IsNotOpened, IsRevalidated, IsOutOfPlace}
use Rattle.chunk_map.specs.declared.layouts.Geometry.{Geometry}
use Rattle.chunk_map.specs.Layouts.{total_bytes}
use Rattle.thread_engine.specs.RanApart.{Rejoined}
use Rattle.flatstore_commands.specs.declared.report.Status.{Status}
use Rattle.flatstore_commands.specs.declared.report.Status.TheVariants as statuses
use Rattle.flatstore_commands.specs.declared.report.CommandReport.{CommandReport}

-- calls of the region went from the one state to the other
abbrev pub Runs : State → State → Type 0
Runs old new = Over old new (λ t cells. Unit {0})

-- It was opened once, with these words, and from that moment on this was done to it.
pub record GoesOnBy (Done : State → State → Type 0) (old new : State) (bytes : ℕ)
    (image : ℕ → ℕ) : Type 0 where
  pub at : State
  pub attached : Attached old at bytes image
  pub once : IsOpenedOnceMore old at
  pub granted : at.frame.refusals ≡ old.frame.refusals
  pub on : Done at new

-- the same, and from that moment on its calls were used
abbrev pub GoesOnFrom : State → State → ℕ → (ℕ → ℕ) → Type 0
GoesOnFrom old new bytes image = GoesOnBy Runs old new bytes image

-- It stays as it was: nobody tried to open it, or that was refused.
pub record IsUnopened (old new : State) : Type 0 where
  pub stays : Stays old new
  pub tried : IsNotOpened old new ⊎ IsOpenedOnceMore old new

-- There was no memory, or the opening itself failed.
abbrev pub HasNotOpened : State → State → Status → Type 0
HasNotOpened old new status =
    (status ≡ statuses.Memory) ⊎ ((status ≡ statuses.RegionFault) × IsOpenedOnceMore old new
    × Rose old.frame.refusals new.frame.refusals)

-- A call that attaches the region does so once, and then does this to it, or it leaves it as it was.
pub record AttachesBy (Done : State → State → Type 0) (old new : State) (found : ℕ → ℕ)
    (r : CommandReport) : Type 0 where
  pub attached : r.attached ≡ true → GoesOnBy Done old new new.frame.bytes found
  pub unattached : r.attached ≡ false → IsUnopened old new
  pub cause : r.attached ≡ false → HasNotOpened old new r.status

-- a dump, a log, a scan and an audit use the calls of the region alone
abbrev pub Attaches : State → State → (ℕ → ℕ) → CommandReport → Type 0
Attaches old new found r = AttachesBy Runs old new found r

-- Behind a run that came to its end the region was asked whether it is in its place, as the last that was done to it,
-- and whether it was says the second value. Behind one that didn't it was left as it was.
abbrev pub Asks : Bool → Bool → State → State → Type 0
Asks true true left new = IsRevalidated left new
Asks true false left new = IsOutOfPlace left new
Asks false in_place left new = new ≡ left

-- This was done to it, and then it was asked, as the report says.
pub record AsksBehind (Done : State → State → Type 0) (r : CommandReport) (at new : State) :
    Type 0 where
  pub left : State
  pub done : Done at left
  pub asks : Asks r.complete r.in_place left new

-- a replay uses the calls of the region, and asks it behind the run
abbrev pub AttachesToRun : State → State → (ℕ → ℕ) → CommandReport → Type 0
AttachesToRun old new found r = AttachesBy (AsksBehind Runs r) old new found r

-- a run on threads splits the region and joins it again, or leaves it as it was
abbrev pub MayRejoin : State → State → Type 0
MayRejoin old new = Rejoined old new ⊎ (Stays old new × IsNotOpened old new)

-- It did so, and meanwhile asked the region whether it is in its place, which was counted as the report says.
pub record AsksMeanwhile (r : CommandReport) (at new : State) : Type 0 where
  pub done : MayRejoin at new
  pub found : r.in_place ≡ true → Rose at.frame.validations new.frame.validations
  pub lost : r.complete ≡ true → r.in_place ≡ false → Faulted at new

abbrev pub AttachesToSplit : State → State → (ℕ → ℕ) → CommandReport → Type 0
AttachesToSplit old new found r = AttachesBy (AsksMeanwhile r) old new found r

-- A format creates the region once, or leaves it as it was, or its one try to create it failed and left it no words.
pub record Creates (old new : State) (l : Geometry) (r : CommandReport) : Type 0 where
  pub created : r.attached ≡ true → GoesOnFrom old new (total_bytes l) (λ w. 0)
  pub uncreated : r.attached ≡ false → IsUnopened old new
      ⊎ (IsOpenedOnceMore old new × (new.frame.words ≡ 0))
  pub cause : r.attached ≡ false → HasNotOpened old new r.status
