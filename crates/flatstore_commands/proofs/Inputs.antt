-- The lines of an input, and what its requests are.
use Rattle.std.proofs.Common.{◌≡◌, ℕ, ◌≤◌, arith, List, [], ◌∷◌, refl, ◌∙◌, ap, Ok}
use Rattle.std.specs.List.{AllByRecursion, filter_map}
use Rattle.fs_text.specs.declared.line.Line.{Line}
use Rattle.fs_text.specs.declared.line.Line.TheVariants.{Ask, Go}
use Rattle.fs_text.specs.Bounds.{IsLine}
use Rattle.fs_text.specs.Input.{input_of, request_in, trace_in, trace_of}
use Rattle.engine_laws.specs.Ran.{asked_in}
use Rattle.group_engine.specs.Passes.{NameCores}

asked_lines : (lines : List Line) → filter_map request_in lines ≡ asked_in lines
asked_lines [] = refl
asked_lines (Ask q ∷ ls) = ap (λ qs. q ∷ qs) (asked_lines ls)
asked_lines (Go c turns ∷ ls) = asked_lines ls

-- an input that breaks no rule has the requests of its lines
pub read_trace : (cores : ℕ) (input : List ℕ) (lines : List Line) → input_of cores input ≡ Ok lines → trace_of cores input ≡ asked_in lines
read_trace cores input lines h = ap trace_in h ∙ asked_lines lines

-- its `go` lines name cores
pub names_cores : (cores : ℕ) → 1 ≤ cores → (lines : List Line) → AllByRecursion (IsLine cores) lines → NameCores cores lines
names_cores cores some [] h = tt
names_cores cores some (Ask q ∷ ls) h = names_cores cores some ls h.1
names_cores cores some (Go c turns ∷ ls) h = (let le = h.0.0 in omega (arith, le, some), names_cores cores some ls h.1)
