use Rattle.std.proofs.Common.{ℕ, ◌+◌, ◌≤◌, take}
use Rattle.std.specs.List.{AllByRecursion}
use Rattle.log_entry.specs.declared.entry.EntryName.{EntryName}
use Rattle.core_index.specs.Marks.{kept}
use Rattle.core_index.specs.Noted.{Noted, NotedIfDead, count_dead_in}
use Rattle.core_index.proofs.key_slot.KeySlot.note_marks.Given as goal

abbrev pub invariant-loop-mark : goal.invariant-loop-mark
invariant-loop-mark l = record {
  noted : AllByRecursion (NotedIfDead l.notices l.key l.self.known) (kept (take l.mark-index l.marks));
  still : (h : ℕ) (n : EntryName) → Noted l.initial.notices h n → Noted l.notices h n;
  spare : l.initial.notices.spare ≤ l.notices.spare + count_dead_in l.self.known (kept (take l.mark-index l.marks));
}
