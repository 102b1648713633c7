-- The texts of answers.
use Rattle.std.specs.Prelude.{ℕ, List, ◌++◌, decimal, codes, Option, Some, None}
use Rattle.fs_model.specs.declared.model.Pair.{Pair}
use Rattle.fs_text.specs.Output.{ended, pairs_text}

-- what stands behind the pairs of a page: the next key, or that there is none
abbrev pub last_line : Option ℕ → List ℕ
last_line None = codes "end"
last_line (Some key) = codes "more " ++ decimal key

abbrev pub page_text : List Pair → Option ℕ → List ℕ
page_text pairs more = pairs_text pairs ++ ended (last_line more)

abbrev pub count_text : ℕ → List ℕ
count_text n = ended (decimal n)
