use Rattle.std.proofs.Common.{◌<◌, ◌^◌, ℕ, List, get_or, sym, subst, arith}
use Rattle.region_memory.proofs.history.History.new.Goals as goal

pub invariant_of-result-clause-wide : goal.invariant_of-result-clause-wide
invariant_of-result-clause-wide c =
    let same = c.in_ok-words.ensures.items_if_clones_equal (λ x y e. e) in
    λ k lt. let fits = c.type_inv.words k in subst (λ (l : List ℕ). get_or l k 0 < 2 ^ 64) (sym same) (omega arith)
