-- Calls that change nothing.
use Rattle.std.proofs.Common.{◌≡◌, List, [], ◌∷◌, ◌++◌, refl, sym, ◌∙◌, ap, subst}
use Rattle.region_file.specs.Calls.{Call, settled, measured, gave, wrote, emptied, synced, named, opened, stood, placed, removed, refused, failed, AreReads, OnlyReads}

reads_then : (reads more : List Call) → AreReads reads → AreReads more → AreReads (reads ++ more)
reads_then [] more are rest = rest
reads_then (settled ∷ reads) more are rest = reads_then reads more are rest
reads_then (measured n ∷ reads) more are rest = reads_then reads more are rest
reads_then (gave at bytes ∷ reads) more are rest = reads_then reads more are rest
reads_then (opened name ∷ reads) more are rest = reads_then reads more are rest
reads_then (stood name ∷ reads) more are rest = reads_then reads more are rest
reads_then (refused ∷ reads) more are rest = reads_then reads more are rest
reads_then (wrote at bytes ∷ reads) more are rest = absurd are
reads_then (emptied name ∷ reads) more are rest = absurd are
reads_then (synced ∷ reads) more are rest = absurd are
reads_then (named ∷ reads) more are rest = absurd are
reads_then (placed name ∷ reads) more are rest = absurd are
reads_then (removed name ∷ reads) more are rest = absurd are
reads_then (failed ∷ reads) more are rest = absurd are

-- those before it too
pub reads_so_far : (before after : List Call) → OnlyReads before after → AreReads before → AreReads after
reads_so_far before after only are = subst (λ (l : List Call). AreReads l) (sym only.1) (reads_then only.0 before only.2 are)

shifted : (reads : List Call) (call : Call) (before : List Call) → reads ++ (call ∷ before) ≡ (reads ++ call ∷ []) ++ before
shifted [] call before = refl
shifted (read ∷ reads) call before = ap (λ (l : List Call). read ∷ l) (shifted reads call before)

-- a call before them that changes nothing either
pub one_before : (call : Call) (before after : List Call) → AreReads (call ∷ []) → OnlyReads (call ∷ before) after → OnlyReads before after
one_before call before after first only = (only.0 ++ call ∷ [], only.1 ∙ shifted only.0 call before, reads_then only.0 (call ∷ []) only.2 first)
