-- What else a worker keeps between two calls: what its index and its view have of one key's blocks, versions and dead names, room for the answers to come, and what a stopped core may lead.
use Rattle.std.specs.Prelude.{◌≡◌, ◌⊎◌, ℕ, ◌+◌, ◌≤◌, true, false, List, [], ◌∷◌, length, Option, Some, None, is_some, if◌then◌else◌}
use Rattle.log_entry.specs.declared.entry.Body.TheVariants as bodies
use Rattle.log_entry.specs.Spelling.{HasSpelling}
use Rattle.core_index.specs.Index.{known_at}
use Rattle.core_index.specs.Records.{Awaits, last_of, standing_of, standing_at, block_of, is_forgettable}
use Rattle.core_index.specs.declared.types.StandingEntry.{StandingEntry}
use Rattle.group_laws.specs.declared.types.Block.{Block}
use Rattle.group_laws.specs.declared.types.Pending.{Pending}
use Rattle.group_laws.specs.Places.{Place, core_of, owner}
use Rattle.group_laws.specs.MemberViews.{View}
use Rattle.core_worker.specs.declared.types.Leading.{Leading}
use Rattle.core_worker.specs.declared.types.Leading.TheVariants as leads
use Rattle.core_worker.specs.declared.types.Place as places
use Rattle.core_worker.specs.declared.worker.Worker.{Worker}
use Rattle.core_worker.specs.OwnPlaces.{is_free, is_busy}
use Rattle.core_worker.specs.Refusals.{HasAnswerRoom}
use Rattle.core_worker.specs.Ties.{Tie}
use Rattle.core_worker.specs.StandingTies.{KnowsDead, NamesAgree, most_names}

-- the change under way of a key points to this block
abbrev pub PointsAt : Option Pending → ℕ → Type 0
PointsAt None q = ⊥
PointsAt (Some x) q = x.entry.body ≡ bodies.Pointer q

abbrev pub count_changes : List places.Place → ℕ
count_changes [] = 0
count_changes (x ∷ xs) = (if is_free x then 0 else 1) + count_changes xs

-- how many accepted requests have no answer yet
abbrev pub unanswered : Worker → ℕ
unanswered w = count_changes w.places.items + (length w.queue
    + (if is_some w.in_hand then 1 else 0))

-- A stopped core leads only to withdraw: it holds no batch, and has taken nothing.
abbrev pub MayLeadStopped : Leading → Type 0
MayLeadStopped (leads.Nothing buffer) = Unit {0}
MayLeadStopped (leads.Collecting c) = c.changes.taken.items ≡ []
MayLeadStopped (leads.Batch b) = ⊥
MayLeadStopped (leads.Persisted x) = ⊥
MayLeadStopped (leads.Failed x) = Unit {0}
MayLeadStopped leads.Between = ⊥

pub record InOrder (p : Place) (m : ℕ) (v : View) (w : Worker) : Type 0 where
  -- each block is one of an own key
  pub owned : (q : ℕ) (b : Block) → v.blocks q ≡ Some b → owner p b.key ≡ m
  -- of a key the view has no block but that of its value and that of its change under way, and these are two
  pub single : (q : ℕ) (b : Block) → v.blocks q ≡ Some b
      → (block_of (known_at w.index b.key) ≡ Some q) ⊎ PointsAt (v.pending b.key) q
  pub distinct : (k q : ℕ) → PointsAt (v.pending k) q → block_of (known_at w.index k) ≡ Some q → ⊥
  -- no dead name that stands in the own log waits to be told
  pub heard : (k n : ℕ) → Awaits (known_at w.index k) (core_of p m) n → ⊥
  -- no name is told that doesn't stand
  pub told : (k n : ℕ) → v.present k n ≡ None → v.told k n ≡ false
  -- no entry stands above the last version of its key
  pub versions : (k n : ℕ) (s : StandingEntry) → standing_at (standing_of (known_at w.index k)) n
      ≡ Some s → n ≤ last_of (known_at w.index k)
  -- and none of another member's key
  pub mine : (k n : ℕ) (s : StandingEntry) → standing_at (standing_of (known_at w.index k)) n
      ≡ Some s → owner p k ≡ m
  -- a change under way is the next one of its key, and words can spell it
  pub next : (k : ℕ) (q : Pending) → v.pending k ≡ Some q → q.entry.version ≡ v.last k + 1
  pub spelled : (k : ℕ) (q : Pending) → v.pending k ≡ Some q → HasSpelling q.entry
  -- no key with a staged change has a record that is to be forgotten
  pub recalls : (k : ℕ) → owner p k ≡ m → is_busy w.places.items k ≡ true → v.pending k ≡ None
      → is_forgettable (known_at w.index k) ≡ false
  -- each accepted request has room for its answer
  pub answers : HasAnswerRoom (unanswered w) w
  -- nothing is in hand until the core winds down
  pub hand : w.winds_down ≡ false → w.in_hand ≡ None
  pub stops : w.stopped ≡ true → MayLeadStopped w.leading
  pub agrees : NamesAgree p m v.kept v.present v.told v.dead
  -- until the core stops or winds down, who was told dead is dead in the view, and there are places for the names of a batch
  pub log : w.stopped ≡ false → w.winds_down ≡ false
      → KnowsDead m v.kept v.present v.told v.dead w.standing
  pub names : w.stopped ≡ false → w.winds_down ≡ false → most_names ≤ w.standing.room

-- the same where the worker is tied
abbrev pub InOrderBy : Tie → Worker → Type 0
InOrderBy t w = InOrder t.place t.number t.view w
