-- The state of a run that an engine shows.
use Rattle.std.specs.Prelude.{◌≡◌, ℕ, ◌+◌, ◌*◌, ◌<◌, List, [], ◌∷◌, length, Bool, Option, Some}
use Rattle.std.specs.List.{slice_get}
use Rattle.fs_model.specs.declared.model.Request.{Request}
use Rattle.pm_region.specs.State.{State, IsTelling}
use Rattle.chunk_map.specs.declared.layouts.Geometry.{Geometry}
use Rattle.group_laws.specs.Places.{Place}
use Rattle.group_laws.specs.State.{Group}
use Rattle.group_laws.specs.MemberViews.{View}
use Rattle.group_laws.specs.Regions.{groups_in, place_at}
use Rattle.group_laws.specs.OpeningImages.{opened}
use Rattle.group_board.specs.Journals.{state, image_of, place_in}
use Rattle.group_board.specs.declared.local_board.LocalBoard.{LocalBoard}
use Rattle.engine_laws.specs.Parts.{group_of, member_of}
use Rattle.engine_laws.specs.WorkerMoves.{Hands}
use Rattle.engine_laws.specs.Engine.{Engine}
use Rattle.core_worker.specs.declared.types.Answer.{Answer}
use Rattle.engine_core.specs.declared.types.Stamped.{Stamped}
use Rattle.engine_core.specs.Answers.{kept_at, ShowsAnswer}
use Rattle.engine_core.specs.Calls.{AreOwn}
use Rattle.engine_core.specs.Seated.{Seat}

-- The layout, the workers, the boards, the backlogs and the answers by number show this state, but for the requests themselves.
pub record Shows {W Q : Type 0} (hands : View → W → Hands) (answers : W → List Answer)
    (stands : Place → ℕ → State → View → W → Type 0) (fair : Group → ℕ → W → Type 0)
    (room leads : W → Bool) (queue : Q → List (ℕ × Request)) (s : State) (l : Geometry)
    (workers : List W) (boards : List LocalBoard) (backlogs : List Q) (kept : List (Option Stamped))
    (e : Engine) : Type 0 where
  pub layout : e.layout ≡ l
  pub region : e.region ≡ s
  pub worker_count : length workers ≡ l.cores
  pub board_count : length boards ≡ groups_in l
  pub backlog_count : length backlogs ≡ l.cores
  pub seats : (c : ℕ) (w : W) → slice_get workers c ≡ Some w
      → Seat hands answers stands fair room leads e c w
  pub groups : (g : ℕ) (b : LocalBoard) → slice_get boards g ≡ Some b
      → e.group g ≡ state b.keeper.me.0
  pub waits : (c : ℕ) (q : Q) → slice_get backlogs c ≡ Some q → e.backlog c ≡ queue q
  pub own : (c : ℕ) → c < l.cores → AreOwn (place_at l (group_of l c)) (member_of l c) (e.backlog c)
  pub count : length kept ≡ length e.given
  pub answered : (n : ℕ) → ShowsAnswer (IsTelling s) (slice_get e.given n) (e.answer n)
      (kept_at kept n)

-- a sum over a list
abbrev pub total : {X : Type 0} → (X → ℕ) → List X → ℕ
total f [] = 0
total f (x ∷ xs) = f x + total f xs

-- What is left to do: by worker, by board and by request that waits in a backlog.
abbrev pub left_of : {W Q : Type 0} (left : W → ℕ) (under_way : Group → ℕ) (most : ℕ)
    (queue : Q → List (ℕ × Request)) → List W → List LocalBoard → List Q → ℕ
left_of left under_way most queue ws bs qs = total left ws
    + total (λ (b : LocalBoard). under_way (state b.keeper.me.0)) bs
    + total (λ q. (most + 1) * length (queue q)) qs

-- each board is of its group, as it opens on these words
abbrev pub AreOpened : List ℕ → List LocalBoard → Type 0
AreOpened words bs = (g : ℕ) (b : LocalBoard) → slice_get bs g ≡ Some b
    → state b.keeper.me.0 ≡ opened (place_in g words) (image_of words)

abbrev pub AreEmpty : {Q : Type 0} → List Q → (Q → List (ℕ × Request)) → Type 0
AreEmpty {Q} qs queue = (c : ℕ) (q : Q) → slice_get qs c ≡ Some q → queue q ≡ []
