-- What an engine shows that has just been opened.
use Rattle.std.proofs.Common.{◌≡◌, inl, inr, ℕ, List, [], ◌∷◌, ◌++◌, length, Bool, refl, sym, ◌∙◌, ap}
use Rattle.fs_model.specs.declared.model.Request.{Request}
use Rattle.pm_region.specs.State.{State}
use Rattle.chunk_map.specs.declared.layouts.Geometry.{Geometry}
use Rattle.chunk_map.specs.Layouts.{layout_of}
use Rattle.group_laws.specs.Places.{Place}
use Rattle.group_laws.specs.State.{Group}
use Rattle.group_laws.specs.MemberViews.{View}
use Rattle.group_laws.specs.Regions.{groups_in, place_at}
use Rattle.group_laws.specs.OpeningImages.{opened}
use Rattle.group_board.specs.Journals.{image_of, place_in, state}
use Rattle.group_board.specs.declared.local_board.LocalBoard.{LocalBoard}
use Rattle.engine_laws.specs.WorkerMoves.{Hands}
use Rattle.engine_laws.specs.Stands.{Origin, opening}
use Rattle.core_worker.specs.declared.types.Answer.{Answer}
use Rattle.engine_core.specs.Seated.{AreSeated}
use Rattle.group_engine.specs.Shows.{Shows, AreOpened, AreEmpty}
use Rattle.engine_core.proofs.Clients.{get_more}

pub boards_more : (words : List ℕ) (bs : List LocalBoard) (b : LocalBoard) → AreOpened words bs → state b.keeper.me.0 ≡ opened (place_in (length bs) words) (image_of words) → AreOpened words (bs ++ b ∷ [])
boards_more words bs b all one g z at = elim (get_more bs b z g at) [
  | inl h ↦ all g z h
  | inr h ↦ ap (λ (u : LocalBoard). state u.keeper.me.0) h.1 ∙ one ∙ ap (λ n. opened (place_in n words) (image_of words)) (sym h.0)
]

module _ {W Q : Type 0} (hands : View → W → Hands) (answers : W → List Answer) (stands : Place → ℕ → State → View → W → Type 0) (fair : Group → ℕ → W → Type 0) (room leads : W → Bool) (queue : Q → List (ℕ × Request))
    (words : List ℕ) (l : Geometry) (ws : List W) (bs : List LocalBoard) (qs : List Q) (layout : layout_of (image_of words) ≡ l) (workers : length ws ≡ l.cores) (boards : length bs ≡ groups_in l) (backlogs : length qs ≡ l.cores) (opens : AreOpened words bs) (empty : AreEmpty qs queue) where
  pub shows_opening : (o : Origin) → o.found ≡ image_of words → AreSeated hands answers stands fair room leads ws (opening o) → Shows hands answers stands fair room leads queue o.region l ws bs qs [] (opening o)
  shows_opening o found seats = record {
    layout = ap layout_of found ∙ layout;
    region = refl;
    worker_count = workers;
    board_count = boards;
    backlog_count = backlogs;
    seats = seats;
    groups = λ g b at. ap (λ f. opened (place_at (layout_of f) g) f) found ∙ sym (opens g b at);
    waits = λ c q at. sym (empty c q at);
    own = λ c low. tt;
    count = refl;
    answered = λ n. tt;
  }
