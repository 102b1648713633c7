-- How the answers that go out agree with those that were fixed.
use Rattle.std.specs.Prelude.{◌≡◌, ◌≢◌, ◌⊎◌, ℕ, ◌+◌, ◌<◌, ◌≤◌, List, [], ◌∷◌, ◌++◌, length, Bool, true, false, ◌&&◌, Option, Some, None, is_some}
use Rattle.fs_model.specs.declared.model.Request.{Request}
use Rattle.fs_model.specs.declared.model.Request.TheVariants.{Put, Get, Delete}
use Rattle.fs_model.specs.declared.model.Reply.{Reply}
use Rattle.fs_model.specs.declared.model.Reply.TheVariants.{Stored, Value, Absent, Deleted, Full, VersionsSpent, TooLong, Stopped}
use Rattle.fs_model.specs.Lawful.{is_told}
use Rattle.log_entry.specs.declared.entry_limits.TheConstants.{LAST_PUT_VERSION}
use Rattle.core_room.specs.declared.types.Counts.{Counts}
use Rattle.core_room.specs.declared.types.Shortage.{Shortage}
use Rattle.core_room.specs.declared.types.Shortage.TheVariants as causes
use Rattle.core_room.specs.Lengths.{lines_needed, class_for}
use Rattle.core_room.specs.RoomRule.{leaves_chunk}
use Rattle.engine_laws.specs.WorkerMoves.{Fixed}
use Rattle.core_worker.specs.declared.types.Answer.{Answer}
use Rattle.core_worker.specs.Refusals.{reply_to}

-- a reply that a report tells has the cause that it stands for, and no other reply has one
abbrev pub IsCause : Reply → Option Shortage → Type 0
IsCause r None = is_told r ≡ false
IsCause r (Some s) = r ≡ reply_to s

-- the bytes of the value that a request puts
abbrev pub bytes_put : Request → Option ℕ
bytes_put (Put k v) = Some (length v)
bytes_put (Get k) = None
bytes_put (Delete k) = None

-- the lines of the log that a change asks for, and the class of its block, 0 where it has none
abbrev pub lines_asked : Request → ℕ
lines_asked (Put k v) = lines_needed (length v)
lines_asked (Get k) = 0
lines_asked (Delete k) = 1

abbrev pub class_asked : Request → ℕ
class_asked (Put k v) = class_for (length v)
class_asked (Get k) = 0
class_asked (Delete k) = 0

abbrev pub is_get : Request → Bool
is_get (Put k v) = false
is_get (Get k) = true
is_get (Delete k) = false

-- The numbers of a change that finds no place are of what it asks for.
pub record CountsFor (q : Request) (c : Counts) : Type 0 where
  pub change : is_get q ≡ false
  pub lines : c.need_lines ≡ lines_asked q
  pub class : c.class ≡ class_asked q

-- Its lines have place neither in the open chunk, beside those that are pledged, nor in a fresh one.
pub record ShowsNoRoom (q : Request) (c : Counts) : Type 0 where
  pub asks : CountsFor q c
  pub lines : c.open_lines < c.pledged_lines + c.need_lines
  pub chunks : c.free_chunks < 2

-- It needs a block, of whose class none is free, and no chunk may be cut into blocks.
pub record ShowsNoBlock (q : Request) (c : Counts) : Type 0 where
  pub asks : CountsFor q c
  pub some : c.class ≢ 0
  pub none : c.free_blocks ≡ 0
  pub uncut : leaves_chunk c.open_lines c.free_chunks (c.pledged_lines + c.need_lines) ≡ false

-- A refusal's own numbers show its cause: no place for its lines, no free block and no chunk to cut, no put behind the version that is told, the bytes of its value.
abbrev pub ShowsCause : Request → Option Shortage → Type 0
ShowsCause q None = Unit {0}
ShowsCause q (Some (causes.Room c)) = ShowsNoRoom q c
ShowsCause q (Some (causes.Block c)) = ShowsNoBlock q c
ShowsCause q (Some (causes.Versions last)) = (is_some (bytes_put q) ≡ true)
    × (LAST_PUT_VERSION ≤ last)
ShowsCause q (Some (causes.Length n)) = bytes_put q ≡ Some n

abbrev pub is_found : Reply → Bool
is_found Stored = false
is_found (Value v) = true
is_found Absent = true
is_found Deleted = false
is_found Full = false
is_found VersionsSpent = false
is_found TooLong = false
is_found Stopped = false

-- the reply says what a get found
abbrev pub is_read : Request → Reply → Bool
is_read q r = is_get q && is_found r

-- A reply goes out as it was fixed. Where the region does not tell what it has, a get may go out with another thing found.
pub record IsSaid (Known : Type 0) (q : Request) (fixed given : Reply) : Type 0 where
  pub reply : (given ≡ fixed) ⊎ ((is_read q fixed ≡ true) × (is_read q given ≡ true))
  pub known : Known → given ≡ fixed

-- the same of an answer
pub record IsGiven (Known : Type 0) (x : Fixed) (a : Answer) : Type 0 where
  pub number : a.number ≡ x.number
  pub reply : (a.reply ≡ x.reply) ⊎ ((is_read x.request x.reply ≡ true)
      × (is_read x.request a.reply ≡ true))
  pub known : Known → a.reply ≡ x.reply
  pub cause : IsCause x.reply a.refusal
  pub shows : ShowsCause x.request a.refusal

abbrev pub AreGiven : Type 0 → List Fixed → List Answer → Type 0
AreGiven Known [] [] = Unit {0}
AreGiven Known [] (y ∷ ys) = ⊥
AreGiven Known (x ∷ xs) [] = ⊥
AreGiven Known (x ∷ xs) (y ∷ ys) = IsGiven Known x y × AreGiven Known xs ys

-- the answers for what was fixed come behind those that were not given out yet
pub record AddsAnswers (Known : Type 0) (old new : List Answer) (fixed : List Fixed) : Type 0 where
  pub more : List Answer
  pub added : new ≡ old ++ more
  pub given : AreGiven Known fixed more
