-- How a key stands, and what the share of some keys says.
use Rattle.std.specs.Prelude.{◌≡◌, ℕ, ◌+◌, ◌<◌, ◌%◌, ◌==◌, ◌||◌, nat_eq, nat_lt, List, length, take, Bool, true, false, Option, Some, None, if◌then◌else◌, option_copied, option_map, slice_index_or, IfOk, Result, min}
use Rattle.std.specs.Option.{option_or, unwrap_or}
use Rattle.std.specs.HashMap.{HashMap, get}
use Rattle.fs_model.specs.declared.memory.Memory.{Memory}
use Rattle.fs_model.specs.declared.model.Pair.{Pair}
use Rattle.fs_model.specs.declared.model.Request.{Request}
use Rattle.fs_model.specs.declared.model.Reply.{Reply}
use Rattle.fs_model.specs.Lawful.{IsLawfulFor, asked, cell_left, is_stopped}
use Rattle.run_audit.specs.declared.key_state.KeyState.{KeyState}

-- a key's cell, and whether the store has stopped serving it
abbrev pub State : Type 0
State = Option (List ℕ) × Bool

abbrev pub shown : KeyState → State
shown s = (option_copied s.value, s.stopped)

-- that of a key which the table has
abbrev pub entry_at : {S : Type 0} → HashMap ℕ KeyState S → ℕ → Option State
entry_at table k = option_map shown (get nat_eq table k)

-- a key that the table lacks has no value
abbrev pub state_at : {S : Type 0} → HashMap ℕ KeyState S → ℕ → State
state_at table k = unwrap_or (entry_at table k) (None, false)

-- at the start nothing is stopped
abbrev pub started : List ℕ → State
started v = (Some v, false)

-- the cell's key has its value, where the table lacked the key
abbrev pub Enters : {S : Type 0} → HashMap ℕ KeyState S → HashMap ℕ KeyState S → Pair → Type 0
Enters old new cell = (k : ℕ) → entry_at new k ≡ option_or (entry_at old k)
    (if cell.key == k then Some (started cell.value) else None)

-- the state after a request that was answered so
abbrev pub state_after : Request → Reply → State → State
state_after q r s = (cell_left q r s.0, s.1 || is_stopped r)

-- the key has this state, and every other key the one that it had
abbrev pub Moves : (ℕ → State) → (ℕ → State) → ℕ → State → Type 0
Moves old new key state = (k : ℕ) → new k ≡ (if key == k then state else old k)

-- keys are shared out by their remainder
abbrev pub is_of : ℕ → ℕ → ℕ → Bool
is_of workers share k = (k % workers) == share

-- the keys of the first shares
abbrev pub is_before : ℕ → ℕ → ℕ → Bool
is_before workers share k = nat_lt (k % workers) share

-- the replies to each of these keys are lawful
abbrev pub AreLawful : (ℕ → Option (List ℕ)) → (ℕ → Bool) → List (Request × Reply) → Type 0
AreLawful start mine xs = (k : ℕ) → mine k ≡ true → IsLawfulFor (start k) false (asked k xs)

-- With the request of this number the replies to one of these keys are first not lawful.
pub record IsFaultOf (start : ℕ → Option (List ℕ)) (mine : ℕ → Bool)
    (xs : List (Request × Reply)) (n : ℕ) : Type 0 where
  pub within : n < length xs
  pub lawful : AreLawful start mine (take n xs)
  pub key : ℕ
  pub is_mine : mine key ≡ true
  pub unlawful : IsLawfulFor (start key) false (asked key (take (n + 1) xs)) → ⊥

-- the number of the first fault among these keys, or none where there is none
abbrev pub IsFaultAmong : (ℕ → Option (List ℕ)) → (ℕ → Bool) → List (Request × Reply) → Option ℕ
    → Type 0
IsFaultAmong start mine xs None = AreLawful start mine xs
IsFaultAmong start mine xs (Some n) = IsFaultOf start mine xs n

-- the lesser number, where there are two
abbrev pub earlier : Option ℕ → Option ℕ → Option ℕ
earlier None b = b
earlier (Some a) None = Some a
earlier (Some a) (Some b) = Some (min a b)

-- each of these is what the share of that number says, where memory didn't run out
abbrev pub AreOfShares : (ℕ → Option (List ℕ)) → ℕ → List (Request × Reply)
    → List (Result (Option ℕ) Memory) → Type 0
AreOfShares start workers xs faults = (i : ℕ) (r : Result (Option ℕ) Memory) → i < length faults
    → r ≡ slice_index_or faults i r → IfOk r (IsFaultAmong start (is_of workers i) xs)
