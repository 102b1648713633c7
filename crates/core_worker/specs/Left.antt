-- What is left to do: of a worker, and of what is under way in a group, by what its shared words say. A turn that moves lowers the sum of both.
use Rattle.std.specs.Prelude.{◌≡◌, ℕ, zero, suc, ◌+◌, ◌*◌, ◌<◌, ◌≤◌, Bool, true, false, ◌||◌, List, [], ◌∷◌, length, Option, Some, None, is_some, IfSome, IsSomeAnd, Result, Ok, Err, if◌then◌else◌}
use Rattle.group_laws.specs.declared.group_sizes.TheConstants.{SLOTS}
use Rattle.fs_model.specs.declared.memory.Memory.{Memory}
use Rattle.group_laws.specs.declared.types.Slot.{Slot}
use Rattle.group_laws.specs.declared.types.Slot.TheVariants as slots
use Rattle.group_laws.specs.Places.{members}
use Rattle.group_laws.specs.State.{Group}
use Rattle.group_laws.specs.Updates.{sum_below}
use Rattle.batch_leader.specs.declared.states.Collecting.{Collecting}
use Rattle.batch_leader.specs.declared.taken.Taken.{Taken}
use Rattle.batch_leader.specs.Leading.{taken_by}
use Rattle.core_worker.specs.declared.types.Leading.{Leading}
use Rattle.core_worker.specs.declared.types.Leading.TheVariants as leads
use Rattle.core_worker.specs.declared.types.Place.{Place}
use Rattle.core_worker.specs.declared.types.Place.TheVariants.{Free, Staged, Posted}
use Rattle.core_worker.specs.declared.types.Turn.{Turn}
use Rattle.core_worker.specs.declared.types.Turn.TheVariants.{Moved, Idle}
use Rattle.core_worker.specs.declared.worker.Worker.{Worker}
use Rattle.core_worker.specs.CleaningLeft.{cleaning_most, clears_left, mail_left}

-- What one request counts, by how far it is. Each step takes more than what the core that makes it, or the one that holds the lock, has to do besides rises by: a take costs 6 for the change that is released, written and given back, and 2 for the lock; a change that is finished costs 4 for the own entry that is to be told.
abbrev pub waits_left : ℕ
waits_left = 36

abbrev pub staged_left : ℕ
staged_left = 30

-- a posted one is counted by its slot, and not by its place: it is moved by whoever leads
abbrev pub slot_left : Slot → ℕ
slot_left slots.Empty = 0
slot_left (slots.Posted e) = 24
slot_left slots.Taken = 15
slot_left (slots.Done e h) = 9
slot_left (slots.Failed e) = 9

abbrev pub place_left : Place → ℕ
place_left Free = 0
place_left (Staged number entry value) = staged_left
place_left (Posted number key lines) = 0

abbrev pub places_left : List Place → ℕ
places_left [] = 0
places_left (x ∷ xs) = place_left x + places_left xs

-- what it took is to be released and written, and then its names stand in the log
abbrev pub taken_left : List Taken → ℕ
taken_left ts = 6 * length ts

abbrev pub leading_left : Leading → ℕ
leading_left (leads.Nothing buffer) = 0
leading_left (leads.Collecting c) = taken_left c.changes.taken.items
leading_left (leads.Batch b) = 1 + 3 * length b.changes.taken.items
leading_left (leads.Persisted x) = 0
leading_left (leads.Failed x) = 0
leading_left leads.Between = 0

-- what is left to do of its own requests and those that it leads: a core that runs may still stop, and wind down
abbrev pub serves_left : Worker → ℕ
serves_left w = waits_left * (length w.queue + (if is_some w.in_hand then 1 else 0))
    + (places_left w.places.items + (leading_left w.leading
    + ((if w.stopped then 0 else 1) + (if w.winds_down then 0 else 1))))

-- and of cleaning
abbrev pub left : Worker → ℕ
left w = serves_left w
    + clears_left w.accepted w.cleaning w.standing w.index w.notices.items

-- an accepted request waits, or is staged, or is answered; and a cleaning may be begun
abbrev pub most : ℕ
most = waits_left + cleaning_most

abbrev pub offers : Slot → Bool
offers slots.Empty = false
offers (slots.Posted e) = true
offers slots.Taken = false
offers (slots.Done e h) = false
offers (slots.Failed e) = false

-- whether one of the slots below a number is Posted
abbrev pub any_offers : (ℕ → Slot) → ℕ → Bool
any_offers slots zero = false
any_offers slots (suc n) = offers (slots n) || any_offers slots n

-- a member has an own change Posted, where the state is told
abbrev pub HasOffer : Option Group → ℕ → Type 0
HasOffer before m = IfSome before (λ w. any_offers (w.slot m) SLOTS ≡ true)

-- The lock is taken by a member with an own change Posted, and given back when it has taken some, or has none Posted any more. So taking it and giving it back for nothing don't go on for ever.
abbrev pub lock_left : Option ℕ → (ℕ → ℕ → Slot) → ℕ
lock_left None slot = 1
lock_left (Some h) slot = if any_offers (slot h) SLOTS then 0 else 2

abbrev pub slots_left : Group → ℕ
slots_left w = sum_below (members w.place) (λ a. sum_below SLOTS (λ s. slot_left (w.slot a s)))

abbrev pub group_left : Group → ℕ
group_left w = slots_left w + (lock_left w.holder w.slot + mail_left (members w.place) w.mail)

-- where the state is told, there is less to do now
abbrev pub Lowers : Option Group → Option Group → Worker → Worker → Type 0
Lowers before after w x = IfSome before (λ a. IsSomeAnd after
    (λ b. left x + group_left b < left w + group_left a))

-- there is no more to do than before
abbrev pub NotMore : Option Group → Option Group → Worker → Worker → Type 0
NotMore before after w x = IfSome before (λ a. IsSomeAnd after
    (λ b. left x + group_left b ≤ left w + group_left a))

-- by what a turn answers: where it moved, or had no memory for all of it, there is less to do, and else no more
abbrev pub MeasuresTurn : Turn → Option Group → Option Group → Worker → Worker → Type 0
MeasuresTurn Moved before after w x = Lowers before after w x
MeasuresTurn Idle before after w x = NotMore before after w x

abbrev pub Measures : Result Turn Memory → Option Group → Option Group → Worker → Worker → Type 0
Measures (Ok turn) before after w x = MeasuresTurn turn before after w x
Measures (Err memory) before after w x = Lowers before after w x

-- What the measure needs of a worker besides: a core that runs, and has taken nothing in its round so far, is at the round's first slot.
abbrev pub StartsFirst : Worker → Type 0
StartsFirst w = w.stopped ≡ false → (c : Collecting) → w.leading ≡ leads.Collecting c
    → taken_by c ≡ [] → c.at ≡ 0

-- of any group, and any member of it
abbrev pub fair : Group → ℕ → Worker → Type 0
fair a m w = StartsFirst w
