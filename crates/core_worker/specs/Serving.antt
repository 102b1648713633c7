-- What beginning the waiting requests of a key leaves of the other keys, and of the room for answers.
use Rattle.std.specs.Prelude.{◌≡◌, ◌≢◌, ℕ, ◌+◌, ◌<◌, true, false, [], length}
use Rattle.conflict_queue.specs.Waiting.{waiting}
use Rattle.core_index.specs.Index.{room_at}
use Rattle.core_worker.specs.declared.worker.Worker.{Worker}
use Rattle.core_worker.specs.OwnPlaces.{is_busy}
use Rattle.core_worker.specs.Refusals.{HasAnswerRoom}
use Rattle.core_worker.specs.Ties.{Tie, LeadsNothing}
use Rattle.core_worker.specs.Beginning.{IsHeldAside}
use Rattle.core_worker.specs.Order.{count_changes, InOrderBy}

-- it leads nothing until it stops
abbrev pub LeadsNothingYet : Worker → Type 0
LeadsNothingYet w = w.stopped ≡ false → LeadsNothing w

-- A request of the key was begun: no other key is busy that wasn't, the answer used no more than its own room, and a core that has stopped staged nothing.
pub record KeepsLine (old new : Worker) (k : ℕ) : Type 0 where
  pub others : (j : ℕ) → j ≢ k → is_busy new.places.items j ≡ true
      → is_busy old.places.items j ≡ true
  pub counts : (n : ℕ) → HasAnswerRoom (count_changes old.places.items + (n + 1)) old
      → HasAnswerRoom (count_changes new.places.items + n) new
  pub halts : old.stopped ≡ true → new.places ≡ old.places

-- of the other keys, those that are busy have room for the records of what waits, and until it winds down nothing waits of those that aren't
pub record OthersWait (w : Worker) (k : ℕ) : Type 0 where
  pub admitted : (j : ℕ) → j ≢ k → is_busy w.places.items j ≡ true
      → length (waiting w.queue j) < room_at w.index j
  pub waits : w.winds_down ≡ false → (j : ℕ) → j ≢ k → is_busy w.places.items j ≡ false
      → waiting w.queue j ≡ []

-- the same of all keys
pub record AllWait (w : Worker) : Type 0 where
  pub admitted : (j : ℕ) → is_busy w.places.items j ≡ true
      → length (waiting w.queue j) < room_at w.index j
  pub waits : w.winds_down ≡ false → (j : ℕ) → is_busy w.places.items j ≡ false
      → waiting w.queue j ≡ []

-- wherever it was tied and in order, it is in order
abbrev pub KeepsOrders : Worker → Worker → ℕ → Type 0
KeepsOrders old new k = (t : Tie) → IsHeldAside old k t → InOrderBy t old → InOrderBy t new

-- nothing but this differs, and of the index its room
abbrev pub OnlyServes : Worker → Worker → Type 0
OnlyServes old new = new ≡ record old {
  allocator = new.allocator;
  places = new.places;
  answers = new.answers;
  index = new.index;
  queue = new.queue;
  in_hand = new.in_hand;
  winds_down = new.winds_down;
}
