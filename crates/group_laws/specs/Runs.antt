-- The kinds of steps, and the states that a list of steps leads to.
use Rattle.std.specs.Prelude.{◌≡◌, ℕ, List, [], ◌∷◌, Some, None, ◌⊎◌}
use Rattle.log_entry.specs.declared.entry.Entry.{Entry}
use Rattle.log_entry.specs.declared.entry.EntryName.{EntryName}
use Rattle.group_laws.specs.declared.types.Seen.TheVariants.{Slot as SeenSlot, Mail as SeenMail, Holder as SeenHolder}
use Rattle.group_laws.specs.State.{Group, Notices, word_shown, is_full}
use Rattle.group_laws.specs.Steps.{IsMember, IsSlot, posts, CanPost, locks, CanLock, finds, takes, CanTake, unlocks, CanUnlock, commits, CanCommit, marks, CanMark, fails, CanFail, finishes, CanFinish, gives_up, CanGiveUp, withdraws, CanWithdraw, dooms, CanDoom, retires, CanRetire, sends, CanSend, receives, CanReceive}
use Rattle.group_laws.specs.Tidying.{Tidied}

-- Slots and mailboxes by their numbers. Split and Join move a view between seats of the group's table; the state doesn't show where it is.
pub data Kind : Type 0 where
  Split : Kind
  Join : Kind
  Post : ℕ → Entry → List ℕ → Kind
  Lock : Kind
  Look : ℕ → ℕ → Kind
  LookMail : ℕ → ℕ → Kind
  Take : ℕ → ℕ → Kind
  Unlock : Kind
  Commit : Kind
  Mark : ℕ → ℕ → Kind
  Finish : ℕ → Kind
  Fail : ℕ → ℕ → Kind
  Withdraw : ℕ → Kind
  Doom : List EntryName → Kind
  Retire : List EntryName → Kind
  Send : ℕ → Notices → Kind
  Receive : ℕ → Kind

-- member m's step of this kind is enabled at w, and leaves u
abbrev pub IsStep : Group → ℕ → Kind → Group → Type 0
IsStep w m Split u = IsMember w m × (u ≡ w)
IsStep w m Join u = IsMember w m × (u ≡ w)
IsStep w m (Post s e v) u = CanPost w m s e v × (u ≡ posts w m s e v)
IsStep w m Lock u = CanLock w m × (((w.holder ≡ None) × (u ≡ locks w m))
    ⊎ ((h : ℕ) × (w.holder ≡ Some h) × (u ≡ finds w m (SeenHolder h))))
IsStep w m (Look a s) u = IsMember w m × IsSlot w a s
    × (u ≡ finds w m (SeenSlot a s (word_shown (w.slot a s))))
IsStep w m (LookMail a b) u = IsMember w m × IsMember w a × IsMember w b
    × (u ≡ finds w m (SeenMail a b (is_full (w.mail a b))))
IsStep w m (Take a s) u = (e : Entry) × CanTake w m a s e × (u ≡ takes w m a s e)
IsStep w m Unlock u = CanUnlock w m × (u ≡ unlocks w m)
IsStep w m Commit u = CanCommit w m × (u ≡ commits w m)
IsStep w m (Mark a s) u = (e : Entry) × CanMark w m a s e × (u ≡ marks w m a s e)
IsStep w m (Finish s) u = ((e : Entry) × (h : ℕ) × CanFinish w m s e h
    × Tidied (finishes w m s e h) m u)
    ⊎ ((e : Entry) × CanGiveUp w m s e × Tidied (gives_up w m s e) m u)
IsStep w m (Fail a s) u = (e : Entry) × CanFail w m a s e × (u ≡ fails w m a s e)
IsStep w m (Withdraw s) u = (e : Entry) × CanWithdraw w m s e × (u ≡ withdraws w m s e)
IsStep w m (Doom ns) u = CanDoom w m ns × (u ≡ dooms w m ns)
IsStep w m (Retire ns) u = CanRetire w m ns × Tidied (retires w m ns) m u
IsStep w m (Send to n) u = CanSend w m to n × (u ≡ sends w m to n)
IsStep w m (Receive from) u = (n : Notices) × CanReceive w m from n
    × Tidied (receives w m from n) m u

-- the steps lead from w to u
abbrev pub Runs : Group → List (ℕ × Kind) → Group → Type 0
Runs w [] u = u ≡ w
Runs w (x ∷ xs) u = (mid : Group) × IsStep w x.0 x.1 mid × Runs mid xs u
