use Rattle.std.proofs.Common.{◌≡◌}
use Rattle.core_index.specs.Index.{IsIndex}
use Rattle.core_index.proofs.death_notes.next_dead.Given as goal

abbrev pub invariant-loop-name : goal.invariant-loop-name
invariant-loop-name l = record {
  same : l.slots.entries ≡ l.initial.slots.entries;
  left : l.start ≡ l.initial.start;
  index : IsIndex l.slots.entries l.start l.notices;
}

abbrev pub decreases-loop-name : goal.decreases-loop-name
decreases-loop-name l = l.notices.used
