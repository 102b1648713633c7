-- The replies that refusals stand for, and what makes the numbers of a refusal small.
use Rattle.std.specs.Prelude.{◌≡◌, ℕ, ◌+◌, ◌≤◌, List, length}
use Rattle.std.specs.VecDeque.{deque_len, deque_capacity}
use Rattle.std.specs.List.{AllByRecursion}
use Rattle.group_laws.specs.declared.group_sizes.TheConstants.{SLOTS}
use Rattle.fs_model.specs.declared.model.Reply.{Reply}
use Rattle.fs_model.specs.declared.model.Reply.TheVariants.{Full, VersionsSpent, TooLong}
use Rattle.log_entry.specs.Spelling.{HasSpelling}
use Rattle.core_room.specs.declared.types.Shortage.{Shortage}
use Rattle.core_room.specs.declared.types.Shortage.TheVariants as causes
use Rattle.core_worker.specs.declared.types.Place.{Place}
use Rattle.core_worker.specs.declared.types.Place.TheVariants.{Free, Staged, Posted}
use Rattle.core_worker.specs.declared.worker.Worker.{Worker}
use Rattle.core_worker.specs.Supplies.{IsSmall, under_way}

-- a place pledges few lines
abbrev pub IsCounted : Place → Type 0
IsCounted Free = Unit {0}
IsCounted (Staged number entry value) = HasSpelling entry
IsCounted (Posted number key lines) = lines ≤ 5

abbrev pub AreCounted : List Place → Type 0
AreCounted ps = AllByRecursion IsCounted ps

-- What makes the sum of what is pledged small.
pub record IsMeasured (w : Worker) : Type 0 where
  pub eight : length w.places.items ≡ SLOTS
  pub counted : AreCounted w.places.items
  pub small : IsSmall (under_way w)
  pub layout : w.allocator.layout ≡ w.layout

-- the reply that a cause stands for
abbrev pub reply_to : Shortage → Reply
reply_to (causes.Room c) = Full
reply_to (causes.Block c) = Full
reply_to (causes.Versions last) = VersionsSpent
reply_to (causes.Length n) = TooLong

-- the answers have room for so many more, without memory
abbrev pub HasAnswerRoom : ℕ → Worker → Type 0
HasAnswerRoom n w = deque_len w.answers + n ≤ deque_capacity w.answers
