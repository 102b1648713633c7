use Rattle.std.proofs.Common.{◌≡◌, length, None}
use Rattle.std.specs.List.{AllByRecursion}
use Rattle.core_index.proofs.death_notices.no_heads.Given as goal

abbrev pub invariant-loop : goal.invariant-loop
invariant-loop l = record {
  count : length l.heads.items ≡ l.counter;
  each : AllByRecursion (λ h. h ≡ None) l.heads.items;
}
