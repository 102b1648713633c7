-- The worker of one core in a state of a run.
use Rattle.std.specs.Prelude.{◌≡◌, ℕ, List, [], Bool, Some}
use Rattle.std.specs.List.{slice_get}
use Rattle.pm_region.specs.State.{State}
use Rattle.group_laws.specs.Places.{Place}
use Rattle.group_laws.specs.State.{Group}
use Rattle.group_laws.specs.MemberViews.{View}
use Rattle.group_laws.specs.Regions.{place_at}
use Rattle.engine_laws.specs.Parts.{group_of, member_of}
use Rattle.engine_laws.specs.WorkerMoves.{Hands}
use Rattle.engine_laws.specs.Engine.{Engine}
use Rattle.engine_laws.specs.Workers.{Sits}
use Rattle.core_worker.specs.declared.types.Answer.{Answer}
use Rattle.engine_core.specs.Calls.{is_open}

-- The worker of core c in a state: it has given out all its answers.
pub record Seat {W : Type 0} (hands : View → W → Hands) (answers : W → List Answer)
    (stands : Place → ℕ → State → View → W → Type 0) (fair : Group → ℕ → W → Type 0)
    (room leads : W → Bool) (e : Engine) (c : ℕ) (w : W) : Type 0 where
  pub view : View
  pub sits : Sits e c view (hands view w)
  pub tied : stands (place_at e.layout (group_of e.layout c)) (member_of e.layout c) e.region view w
  pub fairly : fair (e.group (group_of e.layout c)) (member_of e.layout c) w
  pub takes : e.takes c ≡ is_open room leads w
  pub given : answers w ≡ []

-- each worker is in its place
abbrev pub AreSeated : {W : Type 0} (hands : View → W → Hands) (answers : W → List Answer)
    (stands : Place → ℕ → State → View → W → Type 0) (fair : Group → ℕ → W → Type 0)
    (room leads : W → Bool) → List W → Engine → Type 0
AreSeated {W} hands answers stands fair room leads ws e = (c : ℕ) (w : W) → slice_get ws c ≡ Some w
    → Seat hands answers stands fair room leads e c w
