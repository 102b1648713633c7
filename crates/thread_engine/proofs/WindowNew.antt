-- A new worker has ended: it has nothing to do yet.
use Rattle.std.proofs.Common.{◌≡◌, ℕ, suc, ◌||◌, true, false, not, if◌then◌else◌, List, [], ◌∷◌, length, is_some, nat_lt, refl, ◌∙◌, ap}
use Rattle.chunk_map.specs.declared.layouts.Geometry.{Geometry}
use Rattle.recover.specs.declared.types.CoreStart.{CoreStart}
use Rattle.core_worker.specs.declared.types.Place.{Place}
use Rattle.core_worker.specs.declared.types.Place.TheVariants.{Free}
use Rattle.core_worker.specs.OwnPlaces.{is_free, is_posted, place_at}
use Rattle.core_worker.specs.PostedPlaces.{any_posted}
use Rattle.core_worker.specs.Status.{all_free, is_leading}
use Rattle.core_worker.specs.Openings.{IsNew}
use Rattle.thread_engine.specs.WorkStates.{WorkState, HasEnded}

free_all : (ps : List Place) → ((s : ℕ) → place_at ps s ≡ Free) → all_free ps ≡ true
free_all [] h = refl
free_all (x ∷ xs) h = ap (λ (y : Place). if is_free y then all_free xs else false) (h 0) ∙ free_all xs (λ s. h (suc s))

posted_none : (ps : List Place) → ((s : ℕ) → place_at ps s ≡ Free) → any_posted ps ≡ false
posted_none [] h = refl
posted_none (x ∷ xs) h = ap (λ (y : Place). if is_posted y then true else any_posted xs) (h 0) ∙ posted_none xs (λ s. h (suc s))

pub new_ended : (x : WorkState) (start : CoreStart) (layout : Geometry) → IsNew start layout x.worker → x.queue ≡ [] → HasEnded x
new_ended x start layout N none = record {
  leads = ap is_leading N.leading.1;
  posted = posted_none x.worker.places.items N.free;
  pending = λ runs. (λ i. not (free_all x.worker.places.items N.free i) || is_some (N.hand i) || nat_lt 0 (length (N.queue i)));
  queue = λ runs. none;
}
