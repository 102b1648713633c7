-- Where replies first aren't lawful.
use Rattle.std.specs.Prelude.{ℕ, ◌+◌, ◌<◌, ◌≤◌, List, length, take, Option}
use Rattle.fs_model.specs.declared.model.Pair.{Pair}
use Rattle.fs_model.specs.declared.model.Request.{Request}
use Rattle.fs_model.specs.declared.model.Reply.{Reply}
use Rattle.fs_model.specs.Lawful.{IsLawful}
use Rattle.store_image.specs.Listing.{lookup}
use Rattle.run_audit.specs.declared.verdict.Verdict.{Verdict}
use Rattle.run_audit.specs.declared.verdict.Verdict.TheVariants.{Lawful, Unlawful}

-- the cells of a list of keys with their values
abbrev pub cells_in : List Pair → ℕ → Option (List ℕ)
cells_in start k = lookup k start

-- The first n replies are lawful for the first n requests. A list with fewer has no such front.
pub record IsLawfulFront (start : ℕ → Option (List ℕ)) (trace : List Request)
    (replies : List Reply) (n : ℕ) : Type 0 where
  pub asked : n ≤ length trace
  pub answered : n ≤ length replies
  pub lawful : IsLawful start (take n trace) (take n replies)

-- the least n for which the front of n + 1 isn't lawful
pub record IsFirstFault (start : ℕ → Option (List ℕ)) (trace : List Request)
    (replies : List Reply) (n : ℕ) : Type 0 where
  pub unlawful : IsLawfulFront start trace replies (n + 1) → ⊥
  pub least : (m : ℕ) → m < n → IsLawfulFront start trace replies (m + 1)

-- what a verdict says of the replies
abbrev pub Judges : (ℕ → Option (List ℕ)) → List Request → List Reply → Verdict → Type 0
Judges start trace replies Lawful = IsLawful start trace replies
Judges start trace replies (Unlawful n) = (IsLawful start trace replies → ⊥)
    × IsFirstFault start trace replies n
