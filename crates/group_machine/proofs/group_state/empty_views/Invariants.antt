use Rattle.std.proofs.Common.{◌≡◌, length}
use Rattle.std.specs.List.{AllByRecursion}
use Rattle.group_machine.specs.Shows.{IsEmptyView}
use Rattle.group_machine.proofs.group_state.empty_views.Given as goal

abbrev pub invariant-loop : goal.invariant-loop
invariant-loop l = record {
  count : length l.views.items ≡ l.counter;
  empty : AllByRecursion IsEmptyView l.views.items;
}
