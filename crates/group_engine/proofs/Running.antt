-- The lists of an engine as a state of a run.
use Rattle.std.proofs.Common.{◌≡◌, ℕ, List, Bool, Option, sym, subst}
use Rattle.std.proofs.lemmas.List.{nil_from_length}
use Rattle.fs_model.specs.declared.model.Request.{Request}
use Rattle.pm_region.specs.State.{State}
use Rattle.chunk_map.specs.declared.layouts.Geometry.{Geometry}
use Rattle.group_laws.specs.Places.{Place}
use Rattle.group_laws.specs.State.{Group}
use Rattle.group_laws.specs.MemberViews.{View}
use Rattle.group_board.specs.Seats.{SeatAt}
use Rattle.group_board.specs.declared.local_board.LocalBoard.{LocalBoard}
use Rattle.engine_laws.specs.WorkerMoves.{Hands}
use Rattle.engine_laws.specs.Stands.{Origin, opening}
use Rattle.core_worker.specs.declared.types.Answer.{Answer}
use Rattle.engine_core.specs.declared.types.Stamped.{Stamped}
use Rattle.group_engine.specs.Shows.{Shows}
use Rattle.group_engine.specs.Runs.{RunState, RunMoves, ShowsRun, run_state, first_state}

module _ {W : Type 0} (hands : View → W → Hands) (answers : W → List Answer) (stands : Place → ℕ → State → View → W → Type 0) (fair : Group → ℕ → W → Type 0) (room leads : W → Bool) where
  -- a move from the lists that a state has
  pub of_lists : (begins : State → View → W → W → ℕ → Request → Type 0) (turned : Bool → State → State → Option Group → SeatAt → View → View → W → W → Type 0) (alike : W → W → Type 0) (e : RunState W) (c : ℕ) (moved : Bool) (f : RunState W) (ws : List W) (ks : List (Option Stamped)) → e.workers ≡ ws → e.answers ≡ ks
      → RunMoves hands answers stands fair room leads begins turned alike (run_state e.engine ws ks) c moved f → RunMoves hands answers stands fair room leads begins turned alike e c moved f
  of_lists begins turned alike e c moved f ws ks workers kept m =
      subst (λ us. RunMoves hands answers stands fair room leads begins turned alike (run_state e.engine us e.answers) c moved f) (sym workers)
      (subst (λ us. RunMoves hands answers stands fair room leads begins turned alike (run_state e.engine ws us) c moved f) (sym kept) m)

  -- the first state of a run
  pub shows_first : {Q : Type 0} (queue : Q → List (ℕ × Request)) (o : Origin) (s : State) (l : Geometry) (ws : List W) (bs : List LocalBoard) (qs : List Q) (ks : List (Option Stamped)) → Shows hands answers stands fair room leads queue s l ws bs qs ks (opening o) → ShowsRun hands answers stands fair room leads queue s l ws bs qs ks (first_state o ws)
  shows_first queue o s l ws bs qs ks H = record { shows = H; workers_are = λ i. ws; answers_are = sym (nil_from_length ks H.count) }
