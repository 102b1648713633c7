-- The heads of a part that were read again, and what a core begins with by them.
use Rattle.std.specs.Prelude.{◌≡◌, ℕ, ◌<◌, List, slice_index_or, Option, Some, None, Result, Ok, Err, Vec}
use Rattle.std.specs.Global.{Global}
use Rattle.chunk_map.specs.declared.layouts.Geometry.{Geometry}
use Rattle.chunk_map.specs.declared.heads.Head.{Head}
use Rattle.chunk_map.specs.Layouts.{chunk_first, head_at}
use Rattle.store_image.specs.declared.types.Fault.{Fault}
use Rattle.store_image.specs.Soundness.{damaged}
use Rattle.recover.specs.declared.types.CoreStart.{CoreStart}
use Rattle.recover.specs.declared.types.RecoverError.{RecoverError}
use Rattle.recover.specs.declared.types.RecoverError.TheVariants as errors
use Rattle.recover.specs.Logs.{tail_behind, HasLogsOf}
use Rattle.recover.specs.Starts.{IsAllocatorOf, IsIndexOf, HasCopiesOf}

-- the fault of a chunk of the part whose head is none
pub record IsBadHead (l : Geometry) (image : ℕ → ℕ) (c : ℕ) (fault : Fault) : Type 0 where
  pub chunk : ℕ
  pub rule : ℕ
  pub within : chunk < l.chunks
  pub broken : head_at l image (chunk_first l c chunk) ≡ Err rule
  pub is : fault ≡ damaged c chunk rule

abbrev pub AreHeads : Geometry → (ℕ → ℕ) → ℕ → List Head → Type 0
AreHeads l image c heads = (j : ℕ) (d : Head) → j < l.chunks
    → head_at l image (chunk_first l c j) ≡ Ok (slice_index_or heads j d)

-- the heads of the part's chunks, or a chunk that has none
abbrev pub HasHeads : Geometry → (ℕ → ℕ) → ℕ → Result (Vec Head Global) RecoverError → Type 0
HasHeads l image c (Ok heads) = AreHeads l image c heads.items
HasHeads l image c (Err (errors.Fault fault)) = IsBadHead l image c fault
HasHeads l image c (Err errors.Memory) = Unit {0}

-- the tail of a chunk in a list of heads, where the list has it and it is a log
abbrev pub tail_there : Option Head → Option ℕ
tail_there None = None
tail_there (Some head) = tail_behind (Ok head)

-- what core c begins with, by an image that keeps all rules
pub record IsStartOf (l : Geometry) (image : ℕ → ℕ) (c : ℕ) (start : CoreStart) : Type 0 where
  pub logs : HasLogsOf l image c start.log
  pub allocator : IsAllocatorOf l image c start.allocator
  pub index : IsIndexOf l image c start.index
  pub standing : HasCopiesOf image start.log start.standing

-- there is no fault: memory alone may be wanting
abbrev pub Starts : Geometry → (ℕ → ℕ) → ℕ → Result CoreStart RecoverError → Type 0
Starts l image c (Ok start) = IsStartOf l image c start
Starts l image c (Err e) = e ≡ errors.Memory

abbrev pub AllStart : Geometry → (ℕ → ℕ) → Result (Vec CoreStart Global) RecoverError → Type 0
AllStart l image (Ok starts) = (c : ℕ) (d : CoreStart) → c < l.cores
    → IsStartOf l image c (slice_index_or starts.items c d)
AllStart l image (Err e) = e ≡ errors.Memory
