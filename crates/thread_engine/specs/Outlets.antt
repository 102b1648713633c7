-- What an outlet makes of the replies of a run, which it is handed window by window.
use Rattle.std.specs.Prelude.{◌≡◌, ◌≤◌, List, [], ◌∷◌, ◌++◌, length, Bool, true, false}
use Rattle.std.specs.List.{AllByRecursion}
use Rattle.fs_model.specs.declared.model.Reply.{Reply}
use Rattle.pm_region.specs.State.{State}
use Rattle.pm_region.specs.Split.{Stays, IsNotOpened}
use Rattle.answer_queue.specs.declared.window_sizes.TheConstants.{WINDOW}

-- The region that is split says what it said before, but for its counts of looks and of faults.
pub record IsAsked (old new : State) : Type 0 where
  pub stays : Stays old new
  pub opens : IsNotOpened old new
  pub refusals : new.frame.refusals ≡ old.frame.refusals
  pub later : old.faults ≤ new.faults

-- the replies of windows, one window's after another's
abbrev pub all_replies : List (List Reply) → List Reply
all_replies [] = []
all_replies (w ∷ ws) = w ++ all_replies ws

-- It took the replies of these windows, one window's after another's.
abbrev pub TakesAll : {T : Type 0} → (State → T → List Reply → Bool → State → T → Type 0)
    → List (List Reply) → State → T → State → T → Type 0
TakesAll takes [] s old t new = (t ≡ s) × (new ≡ old)
TakesAll {T} takes (w ∷ ws) s old t new = (mid : State) × (next : T) × takes s old w true mid next
    × TakesAll takes ws mid next t new

-- Replies were handed to an outlet window by window: those of full windows, which it took, and those of the last one, which it took or not (`heard`). Where memory ran out in a window (`all` is false), the replies of that window were not handed over.
pub record HandsOut {T : Type 0} (takes : State → T → List Reply → Bool → State → T → Type 0)
    (all heard : Bool) (replies : List Reply) (s : State) (old : T) (t : State)
    (new : T) : Type 0 where
  pub windows : List (List Reply)
  pub full : AllByRecursion (λ w. length w ≡ WINDOW) windows
  pub last : List Reply
  pub few : length last ≤ WINDOW
  pub rest : List Reply
  pub split : replies ≡ all_replies windows ++ (last ++ rest)
  pub at : State
  pub mid : T
  pub taken : TakesAll takes windows s old at mid
  pub whole : all ≡ true → (rest ≡ []) × takes at mid last heard t new
  pub short : all ≡ false → (last ≡ []) × (heard ≡ true) × (t ≡ at) × (new ≡ mid)
