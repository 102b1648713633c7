-- A tally that the replies of a window were added to.
use Rattle.std.specs.Prelude.{◌≡◌, ◌+◌, ◌^◌, ◌≤◌, List, [], ◌++◌, length, Bool, true, false}
use Rattle.fs_model.specs.declared.model.Reply.{Reply}
use Rattle.fs_text.specs.declared.line.LoadTally.{LoadTally}
use Rattle.load_tally.specs.Tallied.{tally_of}

-- They were counted behind those before them, or they are too many for a count of 64 bits.
pub record CountsMore (old : LoadTally) (replies : List Reply) (heard : Bool) (new : LoadTally) :
    Type 0 where
  pub counts : heard ≡ true → (rs : List Reply) → old ≡ tally_of rs []
      → new ≡ tally_of (rs ++ replies) []
  pub many : heard ≡ false → (rs : List Reply) → old ≡ tally_of rs []
      → 2 ^ 64 ≤ length rs + length replies
