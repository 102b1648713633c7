-- What is noted of the answers of a run, by number.
use Rattle.std.specs.Prelude.{◌≡◌, ℕ, ◌+◌, ◌≤◌, List, [], ◌∷◌, ◌++◌, length, map, Bool, false, Option, Some, None, vec_len, vec_capacity}
use Rattle.fs_model.specs.Lawful.{is_finish}
use Rattle.core_room.specs.declared.types.Shortage.{Shortage}
use Rattle.engine_core.specs.declared.types.Stamped.{Stamped}
use Rattle.engine_core.specs.Reports.{refusal_in, refusals_in}
use Rattle.thread_engine.specs.declared.run_notes.RunNotes.{RunNotes}

-- it is a change that was made
abbrev pub is_finished : Option Stamped → Bool
is_finished None = false
is_finished (Some x) = is_finish x.reply

-- why a request was refused, if it was
abbrev pub cause_in : Option Stamped → Option Shortage
cause_in None = None
cause_in (Some x) = x.refusal

-- The notes are those of these answers.
pub record IsNoted (answers : List (Option Stamped)) (x : RunNotes) : Type 0 where
  pub finished : x.finished.items ≡ map is_finished answers
  pub refusals : x.refusals.items ≡ refusals_in 0 answers

-- there is room for so many answers more
pub record HasNoteRoom (n : ℕ) (x : RunNotes) : Type 0 where
  pub finished : vec_len x.finished + n ≤ vec_capacity x.finished
  pub refusals : vec_len x.refusals + n ≤ vec_capacity x.refusals

-- an answer more is noted
pub record NotesOne (answer : Option Stamped) (old new : RunNotes) : Type 0 where
  pub finished : new.finished.items ≡ old.finished.items ++ is_finished answer ∷ []
  pub refusals : new.refusals.items ≡ old.refusals.items
      ++ refusal_in (length old.finished.items) answer
  pub more : vec_len new.finished ≤ vec_len old.finished + 1
  pub as_many : vec_len new.refusals ≤ vec_len old.refusals + 1
  pub room : vec_capacity new.finished ≡ vec_capacity old.finished
  pub same_room : vec_capacity new.refusals ≡ vec_capacity old.refusals
