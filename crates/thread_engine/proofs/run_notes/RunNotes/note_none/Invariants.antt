use Rattle.std.proofs.Common.{◌≡◌, ℕ, ◌+◌, ◌≤◌, List, ◌++◌, Option}
use Rattle.engine_core.specs.declared.types.Stamped.{Stamped}
use Rattle.thread_engine.specs.Collected.{blanks}
use Rattle.thread_engine.specs.Noted.{IsNoted, HasNoteRoom}
use Rattle.thread_engine.proofs.run_notes.RunNotes.note_none.Given as goal

abbrev pub invariant-loop : goal.invariant-loop
invariant-loop l = record {
  notes : (ks : List (Option Stamped)) → IsNoted ks l.fn.self → IsNoted (ks ++ blanks l.counter) l.self;
  within : l.counter ≤ l.count;
  room : (m : ℕ) → m + l.counter ≡ l.count → HasNoteRoom m l.self;
}
