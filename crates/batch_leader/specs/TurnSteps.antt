-- Which steps a turn made, what its view was after each, and where its region stood as it made them.
use Rattle.std.specs.Prelude.{◌≡◌, ℕ, Bool, true, false, List, [], ◌∷◌, ◌++◌}
use Rattle.pm_region.specs.State.{State}
use Rattle.group_laws.specs.Runs.{Kind}
use Rattle.group_laws.specs.MemberViews.{View}
use Rattle.group_board.specs.Trails.{TrailStep}

-- What a seat made so far, the newest step first, and at which stamp the region stood that was handed to the newest of those that are handed one.
pub record Trail : Type 0 where
  pub steps : List TrailStep
  pub at : ℕ

-- it changes nothing that another member sees
abbrev pub is_load : Kind → Bool
is_load Kind.Split = false
is_load Kind.Join = false
is_load (Kind.Post s e v) = false
is_load Kind.Lock = false
is_load (Kind.Look a s) = true
is_load (Kind.LookMail a b) = true
is_load (Kind.Take a s) = false
is_load Kind.Unlock = false
is_load Kind.Commit = false
is_load (Kind.Mark a s) = false
is_load (Kind.Finish s) = false
is_load (Kind.Fail a s) = false
is_load (Kind.Withdraw s) = false
is_load (Kind.Doom ns) = false
is_load (Kind.Retire ns) = false
is_load (Kind.Send to n) = false
is_load (Kind.Receive from) = false

-- it says that what the region has is certain, so it is handed the region
abbrev pub is_handed : Kind → Bool
is_handed Kind.Split = false
is_handed Kind.Join = false
is_handed (Kind.Post s e v) = true
is_handed Kind.Lock = false
is_handed (Kind.Look a s) = false
is_handed (Kind.LookMail a b) = false
is_handed (Kind.Take a s) = false
is_handed Kind.Unlock = false
is_handed Kind.Commit = true
is_handed (Kind.Mark a s) = false
is_handed (Kind.Finish s) = false
is_handed (Kind.Fail a s) = false
is_handed (Kind.Withdraw s) = false
is_handed (Kind.Doom ns) = true
is_handed (Kind.Retire ns) = true
is_handed (Kind.Send to n) = false
is_handed (Kind.Receive from) = false

abbrev pub is_post : Kind → Bool
is_post Kind.Split = false
is_post Kind.Join = false
is_post (Kind.Post s e v) = true
is_post Kind.Lock = false
is_post (Kind.Look a s) = false
is_post (Kind.LookMail a b) = false
is_post (Kind.Take a s) = false
is_post Kind.Unlock = false
is_post Kind.Commit = false
is_post (Kind.Mark a s) = false
is_post (Kind.Finish s) = false
is_post (Kind.Fail a s) = false
is_post (Kind.Withdraw s) = false
is_post (Kind.Doom ns) = false
is_post (Kind.Retire ns) = false
is_post (Kind.Send to n) = false
is_post (Kind.Receive from) = false

-- loads alone, after which nothing of the view v differs but what it looked at
abbrev pub AreLoads : View → List TrailStep → Type 0
AreLoads v [] = Unit {0}
AreLoads v (x ∷ xs) = (is_load x.kind ≡ true) × (x.view ≡ record v { looked = x.view.looked })
    × AreLoads v xs

-- loads, and then at most one other step
abbrev pub LoadsThenStep : View → List TrailStep → Type 0
LoadsThenStep v [] = Unit {0}
LoadsThenStep v (x ∷ xs) = AreLoads v xs

-- they lead from view v to view u
abbrev pub EndsAt : View → View → List TrailStep → Type 0
EndsAt v u [] = u ≡ v
EndsAt v u (x ∷ xs) = x.view ≡ u

-- Where the region stood at a turn's step: as at the turn's end, where the step was handed it. In a turn of any other step the region isn't called. A turn of loads alone may write it.
pub record StandsAt (k : Kind) (s t : State) (x : Trail) : Type 0 where
  pub handed : is_handed k ≡ true → x.at ≡ t.stamp
  pub alone : is_load k ≡ false → is_handed k ≡ false → t ≡ s

abbrev pub StandsAtLast : List TrailStep → State → State → Trail → Type 0
StandsAtLast [] s t x = Unit {0}
StandsAtLast (k ∷ ks) s t x = StandsAt k.kind s t x

-- it posts only where the gate that it asks may let it
abbrev pub AsksFirst : Bool → List TrailStep → Type 0
AsksFirst passes [] = Unit {0}
AsksFirst passes (k ∷ ks) = is_post k.kind ≡ true → passes ≡ true

-- what a board tells of a seat's steps
abbrev pub trail_with : List TrailStep → ℕ → Trail
trail_with steps at = record { steps = steps; at = at }

-- What a turn from view v to view u made of its seat's trail, where its gate may let it pass or not.
pub record TurnSteps (passes : Bool) (s t : State) (v u : View) (old new : Trail) : Type 0 where
  pub made : List TrailStep
  pub more : new.steps ≡ made ++ old.steps
  pub loads : LoadsThenStep v made
  pub ends : EndsAt v u made
  pub last : StandsAtLast made s t new
  pub asks : AsksFirst passes made

-- From this stamp on the turn's step is made: from the one at which the region was handed to it, or else from the first on.
abbrev pub since : Kind → State → Trail → ℕ
since k s x = Rattle.std.specs.Prelude.cond (is_handed k) x.at s.stamp

-- loads alone were made
pub record OnlyLoads (v u : View) (old new : List TrailStep) : Type 0 where
  pub made : List TrailStep
  pub more : new ≡ made ++ old
  pub loads : AreLoads v made
  pub ends : EndsAt v u made

-- loads, and then one step, which isn't handed the region
pub record LoadsThenOne (v u : View) (old new : List TrailStep) : Type 0 where
  pub mid : View
  pub before : List TrailStep
  pub loads : OnlyLoads v mid old before
  pub step : TrailStep
  pub more : new ≡ step ∷ before
  pub leaves : step.view ≡ u
  pub bare : is_handed step.kind ≡ false

-- one step, which was handed the region at this stamp
pub record OneHanded (stamp : ℕ) (u : View) (old : List TrailStep) (new : Trail) : Type 0 where
  pub step : TrailStep
  pub more : new.steps ≡ step ∷ old
  pub leaves : step.view ≡ u
  pub handed : is_handed step.kind ≡ true
  pub at : new.at ≡ stamp
