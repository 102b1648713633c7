-- The places of a worker: one for each of its core's slots.
use Rattle.std.specs.Prelude.{◌≡◌, ◌≢◌, ℕ, ◌+◌, ◌<◌, ◌==◌, Bool, true, false, List, [], ◌∷◌, length, Option, Some, None, slice_index_or, if◌then◌else◌}
use Rattle.pm_region.specs.Words.{lines_for}
use Rattle.log_entry.specs.declared.entry.Body.{Body}
use Rattle.log_entry.specs.declared.entry.Body.TheVariants as bodies
use Rattle.log_entry.specs.Spelling.{words_of}
use Rattle.fs_model.specs.declared.model.Request.{Request}
use Rattle.fs_model.specs.declared.model.Request.TheVariants.{Put, Delete}
use Rattle.group_laws.specs.declared.types.Pending.{Pending}
use Rattle.group_laws.specs.MemberViews.{View}
use Rattle.group_board.specs.Views.{left_in}
use Rattle.core_worker.specs.declared.types.Place.{Place}
use Rattle.core_worker.specs.declared.types.Place.TheVariants.{Free, Staged, Posted}

abbrev pub place_at : List Place → ℕ → Place
place_at ps s = slice_index_or ps s Free

-- whose change stands in a place
abbrev pub key_in : Place → Option ℕ
key_in Free = None
key_in (Staged number entry value) = Some entry.key
key_in (Posted number key lines) = Some key

-- the lines of the log that a place pledges
abbrev pub lines_in : Place → ℕ
lines_in Free = 0
lines_in (Staged number entry value) = lines_for (length (words_of entry))
lines_in (Posted number key lines) = lines

abbrev pub is_free : Place → Bool
is_free Free = true
is_free (Staged number entry value) = false
is_free (Posted number key lines) = false

abbrev pub is_staged : Place → Bool
is_staged Free = false
is_staged (Staged number entry value) = true
is_staged (Posted number key lines) = false

abbrev pub is_posted : Place → Bool
is_posted Free = false
is_posted (Staged number entry value) = false
is_posted (Posted number key lines) = true

-- the lines that all places pledge
abbrev pub own : List Place → ℕ
own [] = 0
own (x ∷ xs) = lines_in x + own xs

abbrev pub count_free : List Place → ℕ
count_free [] = 0
count_free (x ∷ xs) = (if is_free x then 1 else 0) + count_free xs

abbrev pub is_of : ℕ → Option ℕ → Bool
is_of k None = false
is_of k (Some j) = k == j

-- a change of the key stands in a place
abbrev pub is_busy : List Place → ℕ → Bool
is_busy [] k = false
is_busy (x ∷ xs) k = if is_of k (key_in x) then true else is_busy xs k

-- no place has two changes of one key
abbrev pub AreApart : List Place → Type 0
AreApart ps = (s t k : ℕ) → key_in (place_at ps s) ≡ Some k → key_in (place_at ps t) ≡ Some k
    → s ≡ t

-- the lowest place with this, or none
abbrev pub IsLowest : (Place → Bool) → List Place → ℕ → Type 0
IsLowest has ps s = (has (place_at ps s) ≡ true) × (s < length ps)
    × ((t : ℕ) → t < s → has (place_at ps t) ≡ false)

abbrev pub HasNone : (Place → Bool) → List Place → Type 0
HasNone has ps = (t : ℕ) → has (place_at ps t) ≡ false

-- the same places, but for one
pub record Replaces (old new : List Place) (s : ℕ) (x : Place) : Type 0 where
  pub count : length new ≡ length old
  pub here : place_at new s ≡ x
  pub others : (t : ℕ) → t ≢ s → place_at new t ≡ place_at old t

-- the request that an entry and a value come from
abbrev pub request_by : ℕ → List ℕ → Body → Request
request_by k value (bodies.Pointer p) = Put k value
request_by k value (bodies.Embedded v) = Put k v
request_by k value bodies.Tombstone = Delete k

abbrev pub bytes_or : Option (List ℕ) → List ℕ
bytes_or None = []
bytes_or (Some v) = v

-- The request of a change that a view has pending: with a pointer, the value is what the block must hold.
abbrev pub request_pending : View → ℕ → Option Pending → Option Request
request_pending v k None = None
request_pending v k (Some p) = Some (request_by k (bytes_or
    (left_in v.blocks p.entry.body)) p.entry.body)

-- the request of the change in a place
abbrev pub request_in : View → Place → Option Request
request_in v Free = None
request_in v (Staged number entry value) = Some (request_by entry.key value entry.body)
request_in v (Posted number key lines) = request_pending v key (v.pending key)
