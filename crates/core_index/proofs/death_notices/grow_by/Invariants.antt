use Rattle.std.proofs.Common.{◌≡◌, ◌+◌, length}
use Rattle.core_index.specs.Noted.{AreChains, Grows}
use Rattle.core_index.proofs.death_notices.grow_by.Given as goal

abbrev pub invariant-loop : goal.invariant-loop
invariant-loop l = record {
  chains : AreChains l.nodes.items l.heads.items;
  grows : Grows l.initial.nodes.items l.nodes.items;
  count : length l.nodes.items ≡ length l.initial.nodes.items + l.counter;
}
