use Rattle.std.proofs.Common.{◌≡◌, ◌<◌, ◌-◌, ℕ, Bool, true}
use Rattle.lazy_alloc.specs.Chains.{IsLinked}
use Rattle.lazy_alloc.proofs.class_chains.Chains.before.Given as goal

abbrev pub invariant-loop-next : goal.invariant-loop-next
invariant-loop-next l = record {
  below : l.at < l.chunk;
  in_chain : (has : ℕ → ℕ → Bool) (c : ℕ) → IsLinked l.self.firsts.items l.self.nexts.items has → has c l.first ≡ true → has c l.at ≡ true;
}

abbrev pub decreases-loop-next : goal.decreases-loop-next
decreases-loop-next l = l.chunk - l.at
