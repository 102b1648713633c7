-- How the bytes of a file are read.
use Rattle.std.specs.Prelude.{ℕ, zero, suc, ◌+◌, ◌-◌, ◌*◌, ◌/◌, List, [], ◌∷◌, take, drop}
use Rattle.region_file.specs.declared.page_size.TheConstants.{PAGE}
use Rattle.region_file.specs.Calls.{Call, gave}

-- how many pages so many bytes begin
abbrev pub pages_in : ℕ → ℕ
pages_in len = (len + (PAGE - 1)) / PAGE

-- the reads that gave the first n pages of these bytes, one for each page, the newest first
abbrev pub reads_of : List ℕ → ℕ → List Call
reads_of bytes zero = []
reads_of bytes (suc n) = gave (PAGE * n) (take PAGE (drop (PAGE * n) bytes)) ∷ reads_of bytes n
