-- A staged change is posted, with a block or without.
use Rattle.std.proofs.Common.{◌≡◌, ◌⊎◌, inl, inr, ⊎_elim, ℕ, ◌≤◌, ◌<◌, true, false, List, length, None, refl, sym, subst}
use Rattle.std.specs.Prelude.{Vec}
use Rattle.std.specs.Global.{Global}
use Rattle.pm_region.specs.Words.{lines_for}
use Rattle.pm_region.specs.State.{State}
use Rattle.log_entry.specs.declared.entry.Entry.{Entry}
use Rattle.log_entry.specs.declared.entry.Body.{Body}
use Rattle.log_entry.specs.declared.entry.Body.TheVariants as bodies
use Rattle.log_entry.specs.Spelling.{words_of}
use Rattle.batch_leader.specs.declared.batch_buffer.BatchBuffer.{BatchBuffer}
use Rattle.group_laws.specs.Places.{Place}
use Rattle.group_laws.specs.MemberViews.{View}
use Rattle.group_board.specs.Conditions.{MayPost}
use Rattle.group_board.specs.Views.{after_post}
use Rattle.core_worker.specs.declared.types.Leading.TheVariants as leads
use Rattle.core_worker.specs.declared.types.Place as places
use Rattle.core_worker.specs.declared.types.Place.TheVariants.{Free, Staged, Posted}
use Rattle.core_worker.specs.declared.worker.Worker.{Worker}
use Rattle.core_worker.specs.OwnPlaces.{place_at, is_staged, Replaces}
use Rattle.core_worker.specs.Posting.{PointsNowhere, HasNoBlock, IsStagedWith, WouldStand}
use Rattle.core_worker.specs.Ties.{Holds, Stands}
use Rattle.core_worker.proofs.BlockClear.{clear_for}
use Rattle.core_worker.proofs.BlockPosts.{holds_posted_block, may_post, view_is as block_view}
use Rattle.core_worker.proofs.Posts.{holds_posted, stands_posted, view_is as plain_view}

-- an entry has a block or none
body_has : (b : Body) → PointsNowhere b ⊎ ((q : ℕ) × (b ≡ bodies.Pointer q))
body_has (bodies.Pointer q) = inr (q, refl)
body_has (bodies.Embedded u) = inl tt
body_has bodies.Tombstone = inl tt

module _ (p : Place) (m : ℕ) (v : View) (w : Worker) (H : Holds p m v w) (slot number : ℕ) (e : Entry) (value : List ℕ) (lt : slot < 8) (was : place_at w.places.items slot ≡ Staged number e value) (runs : w.stopped ≡ false) where
  pub may_post_staged : MayPost p m v slot (record { entry = e; home = None }) value
  may_post_staged = may_post p m v w H slot number e value lt was runs (λ q points. clear_for p m v w H slot number q e value was (subst (λ (x : places.Place). IsStagedWith x q) (sym was) points))

  pub holds_any : (ps : Vec places.Place Global) (lines : ℕ) → Replaces w.places.items ps.items slot (Posted number e.key lines) → lines ≡ lines_for (length (words_of e)) → lines ≤ 5 → (b : BatchBuffer) → w.leading ≡ leads.Nothing b → Holds p m (after_post slot e value v) (record w { places = ps })
  holds_any ps lines R lines_are few b nothing = ⊎_elim
      (λ none. subst (λ (u : View). Holds p m u (record w { places = ps })) (sym (plain_view p m v w H slot number e value lt was none runs))
      (holds_posted p m v w H slot number e value lt was none runs ps lines R lines_are few b nothing))
      (λ x. subst (λ (u : View). Holds p m u (record w { places = ps })) (sym (block_view p m v w H slot number e value lt was x.0 x.1 runs))
      (holds_posted_block p m v w H slot number e value lt was x.0 x.1 runs ps lines R lines_are few b nothing))
      (body_has e.body)

-- one without a block needs nothing of the region
pub would_stand : (s : State) (p : Place) (m : ℕ) (v : View) (w : Worker) → Holds p m v w → (slot : ℕ) → slot < 8 → w.stopped ≡ false → (x : places.Place) → place_at w.places.items slot ≡ x → HasNoBlock x → Stands s p m v w → WouldStand s p m v w slot x
would_stand s p m v w H slot lt runs Free at none S = none
would_stand s p m v w H slot lt runs (Staged number e value) at none S = stands_posted s p m v (after_post slot e value v) w slot e w.places none (plain_view p m v w H slot number e value lt at none runs) S
would_stand s p m v w H slot lt runs (Posted number key lines) at none S = none

pub staged_with : (x : places.Place) (q : ℕ) → IsStagedWith x q → is_staged x ≡ true
staged_with Free q with = absurd with
staged_with (Staged number e value) q with = refl
staged_with (Posted number key lines) q with = absurd with
