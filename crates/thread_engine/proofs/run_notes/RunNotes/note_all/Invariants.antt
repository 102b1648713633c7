use Rattle.std.proofs.Common.{◌≡◌, ℕ, ◌+◌, List, ◌++◌, length, take, Option}
use Rattle.engine_core.specs.declared.types.Stamped.{Stamped}
use Rattle.thread_engine.specs.Noted.{IsNoted, HasNoteRoom}
use Rattle.thread_engine.proofs.run_notes.RunNotes.note_all.Given as goal

abbrev pub invariant-loop-answer : goal.invariant-loop-answer
invariant-loop-answer l = record {
  notes : (ks : List (Option Stamped)) → IsNoted ks l.fn.self → IsNoted (ks ++ take l.answer-index l.answers) l.self;
  room : (n m : ℕ) → m + l.answer-index ≡ length l.answers → HasNoteRoom (length l.answers + n) l.fn.self → HasNoteRoom (m + n) l.self;
}
