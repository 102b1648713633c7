-- What each step of a member makes of what is under way in its group.
use Rattle.std.proofs.Common.{◌≡◌, ℕ, ◌+◌, ◌<◌, ◌≤◌, true, false, cond, List, Some, None, ◌∙◌, ap, arith}
use Rattle.log_entry.specs.declared.entry.Entry.{Entry}
use Rattle.log_entry.specs.declared.entry.EntryName.{EntryName}
use Rattle.group_laws.specs.declared.types.Slot.{Slot}
use Rattle.group_laws.specs.declared.types.Slot.TheVariants as slots
use Rattle.group_laws.specs.Places.{members}
use Rattle.group_laws.specs.State.{Group}
use Rattle.group_laws.specs.Updates.{put2}
use Rattle.group_laws.specs.Steps.{posts, CanPost, locks, takes, CanTake, unlocks, marks, CanMark, fails, CanFail, finishes, CanFinish, gives_up, CanGiveUp, withdraws, CanWithdraw, dooms, retires}
use Rattle.group_laws.specs.Tidying.{Tidied}
use Rattle.group_laws.specs.Invariant.{Lawful}
use Rattle.core_worker.specs.Left.{slot_left, offers, any_offers, lock_left, slots_left, group_left}
use Rattle.core_worker.proofs.LeftSums.{slots_with, lock_two, lock_low, put_offers, offers_by}

-- One slot is written; who holds the lock stays.
module _ (w : Group) (m s : ℕ) (x : Slot) (member : m < members w.place) (slot : s < 8) where
  abbrev now : Group
  now = record w { slot = put2 w.slot m s x }

  pub slot_way : slots_left now + slot_left (w.slot m s) ≡ slots_left w + slot_left x
  slot_way = slots_with (members w.place) m s w.slot x member slot

  -- one that was not Posted
  pub low_way : offers (w.slot m s) ≡ false → group_left now + slot_left (w.slot m s) ≤ group_left w + slot_left x
  low_way none =
      let sum = slot_way in
      let lock = lock_low w.holder w.slot (put2 w.slot m s x) (put_offers w.slot m s x none) in
      omega (arith, sum, lock)

  -- one that was
  pub high_way : group_left now + slot_left (w.slot m s) ≤ group_left w + slot_left x + 2
  high_way =
      let sum = slot_way in
      let lock = lock_two w.holder (put2 w.slot m s x) in
      omega (arith, sum, lock)

pub posts_way : (w : Group) (m s : ℕ) (e : Entry) (v : List ℕ) → CanPost w m s e v → group_left (posts w m s e v) ≤ group_left w + 24
posts_way w m s e v can =
    let low = low_way w m s (slots.Posted e) can.slot.0 can.slot.1 (ap offers can.empty) in
    let was = ap slot_left can.empty in
    omega (arith, low, was)

pub takes_way : (w : Group) (m a s : ℕ) (e : Entry) → CanTake w m a s e → group_left (takes w m a s e) + 7 ≤ group_left w
takes_way w m a s e can =
    let high = high_way w a s slots.Taken can.slot.0 can.slot.1 in
    let was = ap slot_left can.entry in
    omega (arith, high, was)

pub withdraws_way : (w : Group) (m s : ℕ) (e : Entry) → CanWithdraw w m s e → group_left (withdraws w m s e) + 22 ≤ group_left w
withdraws_way w m s e can =
    let high = high_way w m s slots.Empty can.slot.0 can.slot.1 in
    let was = ap slot_left can.posted in
    omega (arith, high, was)

pub marks_way : (w : Group) (m a s : ℕ) (e : Entry) → Lawful w → CanMark w m a s e → group_left (marks w m a s e) + 6 ≤ group_left w
marks_way w m a s e L can =
    let is = (L.slots.taken_named m a s e can.taken).2 in
    let low = low_way w a s (slots.Done e m) can.slot.0 can.slot.1 (ap offers is) in
    let was = ap slot_left is in
    omega (arith, low, was)

pub fails_way : (w : Group) (m a s : ℕ) (e : Entry) → Lawful w → CanFail w m a s e → group_left (fails w m a s e) + 6 ≤ group_left w
fails_way w m a s e L can =
    let is = (L.slots.taken_named m a s e can.taken).2 in
    let low = low_way w a s (slots.Failed e) can.slot.0 can.slot.1 (ap offers is) in
    let was = ap slot_left is in
    omega (arith, low, was)

-- The two rules change no slot.
tidied_way : (base u : Group) (m : ℕ) → Tidied base m u → group_left u ≡ group_left base
tidied_way base u m t = ap group_left t.4

pub finishes_way : (w u : Group) (m s : ℕ) (e : Entry) (home : ℕ) → CanFinish w m s e home → Tidied (finishes w m s e home) m u → group_left u + 9 ≤ group_left w
finishes_way w u m s e home can tidied =
    let low = low_way w m s slots.Empty can.slot.0 can.slot.1 (ap offers can.done) in
    let was = ap slot_left can.done in
    let same = tidied_way (finishes w m s e home) u m tidied in
    omega (arith, low, was, same)

pub gives_up_way : (w u : Group) (m s : ℕ) (e : Entry) → CanGiveUp w m s e → Tidied (gives_up w m s e) m u → group_left u + 9 ≤ group_left w
gives_up_way w u m s e can tidied =
    let low = low_way w m s slots.Empty can.slot.0 can.slot.1 (ap offers can.failed) in
    let was = ap slot_left can.failed in
    let same = tidied_way (gives_up w m s e) u m tidied in
    omega (arith, low, was, same)

-- The lock is taken with an own slot Posted.
pub locks_way : (w : Group) (m s : ℕ) → w.holder ≡ None → s < 8 → offers (w.slot m s) ≡ true → group_left (locks w m) + 1 ≡ group_left w
locks_way w m s free slot is =
    let before = ap (λ o. lock_left o w.slot) free in
    let after = ap {B = ℕ} (λ b. cond b 0 2) (offers_by (w.slot m) 8 s slot is) in
    omega (arith, before, after)

-- It is given back: without an own slot Posted that makes less to do.
pub unlocks_way : (w : Group) (m : ℕ) → group_left (unlocks w m) ≤ group_left w + 1
unlocks_way w m = omega arith

pub unlocks_none : (w : Group) (m : ℕ) → w.holder ≡ Some m → any_offers (w.slot m) 8 ≡ false → group_left (unlocks w m) + 1 ≡ group_left w
unlocks_none w m mine none =
    let before = ap (λ o. lock_left o w.slot) mine ∙ ap {B = ℕ} (λ b. cond b 0 2) none in
    omega (arith, before)

-- names that vanish touch no slot, no lock and no mailbox
pub retires_way : (w u : Group) (m : ℕ) (ns : List EntryName) → Tidied (retires w m ns) m u → group_left u ≡ group_left w
retires_way w u m ns tidied = tidied_way (retires w m ns) u m tidied

-- nor do names that may vanish
pub dooms_way : (w u : Group) (m : ℕ) (ns : List EntryName) → u ≡ dooms w m ns → group_left u ≡ group_left w
dooms_way w u m ns is = ap group_left is
