use Rattle.std.proofs.Common.{◌≡◌, ℕ, Bool, ◌++◌, length, map, take, drop}
use Rattle.log_standing.specs.NameItems.{Rises}
use Rattle.log_standing.specs.Killing.{Answers, dead_by, all_dead}
use Rattle.log_standing.proofs.name_table.kill_items.Given as goal

-- the items so far
abbrev pub invariant-loop-i : goal.invariant-loop-i
invariant-loop-i g l = record {
  long : length l.items.items ≡ length l.fn.items.items;
  rises : Rises l.fn.items.items → Rises l.items.items;
  same : map all_dead l.items.items ≡ map all_dead l.fn.items.items;
  killed : (f : ℕ → ℕ → Bool) → Answers (goal.F-post g l.dead) f → l.items.items ≡ map (dead_by f) (take l.i l.fn.items.items) ++ drop l.i l.fn.items.items;
}
