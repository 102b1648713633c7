-- How the answers that go out agree with those that were fixed.
use Rattle.std.specs.Prelude.{◌≡◌, ◌⊎◌, ℕ, zero, suc, ◌<◌, List, [], ◌∷◌, true, Option, Some, None, slice_set}
use Rattle.fs_model.specs.declared.model.Request.{Request}
pub use Rattle.core_worker.specs.Refusals.{reply_to}
pub use Rattle.core_worker.specs.Answering.{IsCause, ShowsCause, is_get, is_found, is_read, IsGiven, AreGiven, AddsAnswers}
use Rattle.engine_laws.specs.Engine as engines
use Rattle.core_worker.specs.declared.types.Answer.{Answer}
use Rattle.engine_core.specs.declared.types.Stamped.{Stamped}

-- the answers kept with a stamp, by number
abbrev pub stored : List Answer → ℕ → List (Option Stamped) → List (Option Stamped)
stored [] t ys = ys
stored (x ∷ xs) t ys = stored xs t (slice_set ys x.number
    (Some (record { reply = x.reply; refusal = x.refusal; stamp = t })))

-- what is kept of a number
abbrev pub kept_at : List (Option Stamped) → ℕ → Option Stamped
kept_at [] n = None
kept_at (x ∷ xs) zero = x
kept_at (x ∷ xs) (suc n) = kept_at xs n

-- What is kept of a request is its answer in the run, with the same stamp and its cause; the reply agrees as above.
pub record IsShown (Known : Type 0) (asked : Option Request) (a : engines.Answer)
    (x : Stamped) : Type 0 where
  pub stamp : x.stamp ≡ a.stamp
  pub reply : (x.reply ≡ a.reply) ⊎ ((q : Request) × (asked ≡ Some q) × (is_read q a.reply ≡ true)
      × (is_read q x.reply ≡ true))
  pub known : Known → x.reply ≡ a.reply
  pub cause : IsCause a.reply x.refusal
  pub shows : (q : Request) × (asked ≡ Some q) × ShowsCause q x.refusal

abbrev pub ShowsAnswer : Type 0 → Option Request → Option engines.Answer → Option Stamped → Type 0
ShowsAnswer Known asked None None = Unit {0}
ShowsAnswer Known asked None (Some x) = ⊥
ShowsAnswer Known asked (Some a) None = ⊥
ShowsAnswer Known asked (Some a) (Some x) = IsShown Known asked a x

-- each number has a place
abbrev pub HavePlaces : ℕ → List Answer → Type 0
HavePlaces n [] = Unit {0}
HavePlaces n (x ∷ xs) = (x.number < n) × HavePlaces n xs
