-- What a member has by its own deeds, and the group whose members have these views.
use Rattle.std.specs.Prelude.{◌≡◌, ℕ, true, List, [], ◌∷◌, ◌++◌, ◌+◌, ◌%◌, ◌^◌, cond, eqb, Option, Some, None}
use Rattle.log_entry.specs.declared.entry.EntryName.{EntryName}
use Rattle.group_laws.specs.declared.types.Slot.{Slot}
use Rattle.group_laws.specs.declared.types.Slot.TheVariants.{Empty}
use Rattle.group_laws.specs.Places.{Place, members, owner}
use Rattle.group_laws.specs.State.{Group, Notices}
use Rattle.group_laws.specs.Runs.{Kind}
use Rattle.group_laws.specs.Updates.{has}
use Rattle.group_laws.specs.OpeningImages.{opened}
use Rattle.group_laws.specs.MemberViews.{View, view_of}
use Rattle.group_board.specs.Views.{after_post, after_lock, after_find, after_take, after_unlock, after_commit, after_mark, after_fail, after_finish, after_give_up, after_withdraw, after_doom, after_retire, after_send, after_receive}
use Rattle.group_board.specs.Journals.{image_of, place_in, names_in, name_of, kind_seen}
use Rattle.group_board.specs.Tidies.{tidied}
use Rattle.group_board.specs.Trails.{TrailStep, step_with}
use Rattle.atomic_board.specs.declared.seat_data.Origin.{Origin}
use Rattle.atomic_board.specs.declared.seat_data.Deed.{Deed}
use Rattle.atomic_board.specs.declared.seat_data.Deed.TheVariants.{Post, Lock, Found, Take, Unlock, Commit, Mark, Fail, Finish, GiveUp, Withdraw, Doom, Retire, Send, Receive}

-- The group whose members have these views. What a view has by key counts where the key is the member's own.
abbrev pub group_of : Place → Option ℕ → (ℕ → ℕ → Slot) → (ℕ → ℕ → Option Notices) → (ℕ → View)
    → Group
group_of p holder slot mail view =
    record {
      place = p;
      holder = holder;
      slot = slot;
      mail = mail;
      kept = λ h. (view h).kept;
      flying = λ h. (view h).flying;
      taken = λ h. (view h).taken;
      broken = λ h. (view h).broken;
      holds = λ h. (view h).holds;
      looked = λ h. (view h).looked;
      last = λ k. (view (owner p k)).last k;
      cell = λ k. (view (owner p k)).cell k;
      pending = λ k. (view (owner p k)).pending k;
      present = λ k. (view (owner p k)).present k;
      told = λ k. (view (owner p k)).told k;
      dead = λ h. (view h).dead;
      doomed = λ h. (view h).doomed;
      leaving = λ h. (view h).leaving;
      mailed = λ h. (view h).mailed;
      blocks = λ h. (view h).blocks;
      posted = λ h. (view h).posted;
      took = λ h. (view h).took;
    }

-- the state on which the group opened, and the names that stood then
unfoldable pub began : Origin → Group
began b = opened (place_in b.group b.words) (image_of b.words)

unfoldable pub names_of : Origin → List EntryName
names_of b = names_in b.group b.words

abbrev pub place_of : Origin → Place
place_of b = (began b).place

abbrev pub size : Origin → ℕ
size b = members (place_of b)

-- the names, with the one of the entry that the deed finished
abbrev pub finished_by : Deed → List EntryName → List EntryName
finished_by (Post s e v at) ns = ns
finished_by Lock ns = ns
finished_by (Found x) ns = ns
finished_by (Take a s e) ns = ns
finished_by Unlock ns = ns
finished_by (Commit at) ns = ns
finished_by (Mark a s) ns = ns
finished_by (Fail a s) ns = ns
finished_by (Finish s e h) ns = name_of e ∷ ns
finished_by (GiveUp s e) ns = ns
finished_by (Withdraw s e) ns = ns
finished_by (Doom xs at) ns = ns
finished_by (Retire xs at) ns = ns
finished_by (Send to dead gone) ns = ns
finished_by (Receive from dead gone) ns = ns

abbrev pub names_by : List EntryName → List Deed → List EntryName
names_by ns [] = ns
names_by ns (d ∷ ds) = finished_by d (names_by ns ds)

-- a group all of whose members have this view
abbrev pub alike : Place → View → Group
alike p v = group_of p None (λ a s. Empty) (λ a b. None) (λ h. v)

-- the view after the two rules on the keys of m; the names are all that may stand of them
abbrev pub tidied_in : List EntryName → Place → ℕ → View → View
tidied_in ns p m v = record v {
  last = (tidied (alike p v) ns m).last;
  told = (tidied (alike p v) ns m).told;
  dead = (tidied (alike p v) ns m).dead m;
}

-- the list has each name that stands by the view
abbrev pub CoversIn : List EntryName → View → Type 0
CoversIn ns v = (k n h : ℕ) → v.present k n ≡ Some h → has ns k n ≡ true

-- what a deed makes of the view of m
abbrev pub after_deed : List EntryName → Place → ℕ → Deed → View → View
after_deed ns p m (Post s e value at) v = after_post s e value v
after_deed ns p m Lock v = after_lock v
after_deed ns p m (Found x) v = after_find x v
after_deed ns p m (Take a s e) v = after_take a s e v
after_deed ns p m Unlock v = after_unlock v
after_deed ns p m (Commit at) v = after_commit v
after_deed ns p m (Mark a s) v = after_mark a s v
after_deed ns p m (Fail a s) v = after_fail a s v
after_deed ns p m (Finish s e h) v = tidied_in ns p m (after_finish e h v)
after_deed ns p m (GiveUp s e) v = tidied_in ns p m (after_give_up e v)
after_deed ns p m (Withdraw s e) v = after_withdraw e v
after_deed ns p m (Doom xs at) v = after_doom xs v
after_deed ns p m (Retire xs at) v = tidied_in ns p m (after_retire p m xs v)
after_deed ns p m (Send to dead gone) v = after_send to (record { dead = dead; gone = gone }) v
after_deed ns p m (Receive from dead gone) v = tidied_in ns p m
    (after_receive p m (record { dead = dead; gone = gone }) v)

-- the view of m after these deeds, of which the newest stands first
abbrev pub view_by : Origin → ℕ → List Deed → View
view_by b m [] = view_of (began b) m
view_by b m (d ∷ ds) = after_deed (names_by (names_of b) (d ∷ ds)) (place_of b) m d (view_by b m ds)

-- the step of the machine that a deed is
abbrev pub kind_of : Deed → Kind
kind_of (Post s e v at) = Kind.Post s e v
kind_of Lock = Kind.Lock
kind_of (Found x) = kind_seen x
kind_of (Take a s e) = Kind.Take a s
kind_of Unlock = Kind.Unlock
kind_of (Commit at) = Kind.Commit
kind_of (Mark a s) = Kind.Mark a s
kind_of (Fail a s) = Kind.Fail a s
kind_of (Finish s e h) = Kind.Finish s
kind_of (GiveUp s e) = Kind.Finish s
kind_of (Withdraw s e) = Kind.Withdraw s
kind_of (Doom xs at) = Kind.Doom xs
kind_of (Retire xs at) = Kind.Retire xs
kind_of (Send to dead gone) = Kind.Send to (record { dead = dead; gone = gone })
kind_of (Receive from dead gone) = Kind.Receive from

-- the steps of m's deeds, the newest first, each with the view after it
abbrev pub trail_by : Origin → ℕ → List Deed → List TrailStep
trail_by b m [] = []
trail_by b m (d ∷ ds) = step_with (kind_of d) (view_by b m (d ∷ ds)) ∷ trail_by b m ds

-- the steps, the oldest first, of deeds of which the newest stands first
abbrev pub steps_in : List (ℕ × Deed) → List (ℕ × Kind)
steps_in [] = []
steps_in (x ∷ xs) = steps_in xs ++ (x.0, kind_of x.1) ∷ []

-- the deeds of one member among them
abbrev pub deeds_of : List (ℕ × Deed) → ℕ → List Deed
deeds_of [] m = []
deeds_of (x ∷ xs) m = cond (eqb m x.0) (x.1 ∷ deeds_of xs m) (deeds_of xs m)

-- what a deed makes of the number in the member's own word
abbrev pub stepped_by : Deed → ℕ → ℕ
stepped_by (Post s e v at) n = n
stepped_by Lock n = n
stepped_by (Found x) n = n
stepped_by (Take a s e) n = n
stepped_by Unlock n = n
stepped_by (Commit at) n = (n + 1) % 2 ^ 64
stepped_by (Mark a s) n = n
stepped_by (Fail a s) n = n
stepped_by (Finish s e h) n = n
stepped_by (GiveUp s e) n = n
stepped_by (Withdraw s e) n = n
stepped_by (Doom xs at) n = (n + 1) % 2 ^ 64
stepped_by (Retire xs at) n = (n + 1) % 2 ^ 64
stepped_by (Send to dead gone) n = n
stepped_by (Receive from dead gone) n = n

-- the number in a member's own word after these deeds
abbrev pub own_number : List Deed → ℕ
own_number [] = 0
own_number (d ∷ ds) = stepped_by d (own_number ds)

-- the stamp of a step that is handed the region
abbrev pub at_or : ℕ → Deed → ℕ
at_or n (Post s e v at) = at
at_or n Lock = n
at_or n (Found x) = n
at_or n (Take a s e) = n
at_or n Unlock = n
at_or n (Commit at) = at
at_or n (Mark a s) = n
at_or n (Fail a s) = n
at_or n (Finish s e h) = n
at_or n (GiveUp s e) = n
at_or n (Withdraw s e) = n
at_or n (Doom xs at) = at
at_or n (Retire xs at) = at
at_or n (Send to dead gone) = n
at_or n (Receive from dead gone) = n

-- the stamp at which the member's region stood that was handed to its newest such step
abbrev pub committed_at : List Deed → ℕ
committed_at [] = 0
committed_at (d ∷ ds) = at_or (committed_at ds) d
