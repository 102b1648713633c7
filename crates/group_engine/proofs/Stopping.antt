-- Whether a core has stopped, by the workers.
use Rattle.std.proofs.Common.{◌≡◌, ℕ, ◌<◌, List, length, Bool, true, false, Option, Some, sym, ◌∙◌, subst, arith}
use Rattle.std.specs.List.{slice_get}
use Rattle.fs_model.specs.declared.model.Request.{Request}
use Rattle.pm_region.specs.State.{State}
use Rattle.chunk_map.specs.declared.layouts.Geometry.{Geometry}
use Rattle.group_laws.specs.Places.{Place}
use Rattle.group_laws.specs.State.{Group}
use Rattle.group_laws.specs.MemberViews.{View}
use Rattle.group_board.specs.declared.local_board.LocalBoard.{LocalBoard}
use Rattle.engine_laws.specs.WorkerMoves.{Hands}
use Rattle.engine_laws.specs.Engine.{Engine}
use Rattle.engine_laws.specs.Promises.{HasStopped}
use Rattle.core_worker.specs.declared.types.Answer.{Answer}
use Rattle.engine_core.specs.declared.types.Stamped.{Stamped}
use Rattle.engine_core.proofs.Clients.{some_there}
use Rattle.group_engine.specs.Shows.{Shows}

module _ {W Q : Type 0} (hands : View → W → Hands) (answers : W → List Answer) (stands : Place → ℕ → State → View → W → Type 0) (fair : Group → ℕ → W → Type 0) (room leads : W → Bool) (queue : Q → List (ℕ × Request))
    (e : Engine) (s : State) (l : Geometry) (ws : List W) (bs : List LocalBoard) (qs : List Q) (ks : List (Option Stamped)) (H : Shows hands answers stands fair room leads queue s l ws bs qs ks e) where
  pub stopped_there : (c : ℕ) × (c < length ws) × ((w : W) → slice_get ws c ≡ Some w → (v : View) → (hands v w).stopped ≡ true) → HasStopped e
  stopped_there r =
      let at = some_there ws r.0 r.1 in
      let Y = H.seats r.0 at.0 at.1 in
      let low : r.0 < l.cores = (let n = H.worker_count in let b = r.1 in omega (arith, n, b)) in
      (r.0, subst (λ (n : Geometry). r.0 < n.cores) (sym H.layout) low, sym Y.sits.stopped ∙ r.2 at.0 at.1 Y.view)

  pub going_there : ((c : ℕ) (w : W) → slice_get ws c ≡ Some w → (v : View) → (hands v w).stopped ≡ false) → (c : ℕ) → c < e.layout.cores → e.stopped c ≡ false
  going_there h c low =
      let small : c < l.cores = subst (λ (n : Geometry). c < n.cores) H.layout low in
      let at = some_there ws c (let n = H.worker_count in omega (arith, n, small)) in
      let Y = H.seats c at.0 at.1 in
      sym Y.sits.stopped ∙ h c at.0 at.1 Y.view
