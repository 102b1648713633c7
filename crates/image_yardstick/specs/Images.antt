-- An image as a list of words.
use Rattle.std.specs.Prelude.{ℕ, List, slice_index}

-- the words by number
abbrev pub image_of : List ℕ → ℕ → ℕ
image_of words = λ w. slice_index words w
