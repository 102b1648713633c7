-- Where a core rests on its way in a chain of moves.
use Rattle.std.proofs.Common.{◌≡◌, inr, ℕ, Bool, List, [], ◌∷◌, refl, subst}
use Rattle.fs_model.specs.declared.model.Request.{Request}
use Rattle.group_board.specs.Seats.{SeatAt}
use Rattle.thread_engine.specs.WorkStates.{WorkState, Works, Leads, joined_along, joined_in}
use Rattle.thread_engine.specs.WindowJobs.{IsAtRest}
use Rattle.thread_engine.specs.Between.{ComesBy, RestsWith}

module _ (seat : SeatAt) (refused : Bool) where
  -- a chain comes by its end
  pub comes_end : (a : WorkState) (path : List WorkState) (b : WorkState) (l : Leads seat refused a path b) → ComesBy seat refused (joined_along seat refused a path b l) b a path b l
  comes_end a [] b l = (l, refl)
  comes_end a (x ∷ xs) b l = inr (joined_along seat refused x xs b l.2, refl, comes_end x xs b l.2)

  -- at rest in the end
  pub rests_last : (joined : List (ℕ × Request)) (a b : WorkState) (w : Works seat refused a b) → joined_in seat refused a b w ≡ joined → IsAtRest seat b → RestsWith seat refused joined a b w
  rests_last joined a b w is rest = record { at = b; there = subst (λ j. ComesBy seat refused j b a w.path b w.leads) is (comes_end a w.path b w.leads); rest = rest }
