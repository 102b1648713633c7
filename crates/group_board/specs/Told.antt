-- What a call says of the whole state, where the board tells it, and what it answers of a slot.
use Rattle.std.specs.Prelude.{◌≡◌, ℕ, Option, Some, None, IfSome, IsSomeAnd, option_map}
use Rattle.log_entry.specs.declared.entry.Entry.{Entry}
use Rattle.group_laws.specs.declared.types.Slot.{Slot}
use Rattle.group_laws.specs.declared.types.Slot.TheVariants as slots
use Rattle.group_laws.specs.declared.types.SlotWord.{SlotWord}
use Rattle.group_laws.specs.declared.types.SlotWord.TheVariants as words
use Rattle.group_laws.specs.State.{Group}
use Rattle.group_laws.specs.Invariant.{Lawful}
use Rattle.group_laws.specs.Runs.{Kind, IsStep}
use Rattle.group_board.specs.declared.names.Notices.{Notices}
use Rattle.group_board.specs.Mailing.{notices_of}
use Rattle.group_laws.specs.MemberViews.{View, view_of}
use Rattle.group_board.specs.Journals.{state}
use Rattle.group_board.specs.declared.board_journal.BoardJournal.{BoardJournal}
use Rattle.group_board.specs.declared.board.SlotState.{SlotState}
use Rattle.group_board.specs.declared.board.SlotState.TheVariants.{Empty, Posted, Taken, Done, Failed}

-- The state is told after, too. Member m's step of this kind leads to it, its view there is v, and a lawful state stays lawful.
abbrev pub Makes : Option Group → ℕ → Kind → Option Group → View → Type 0
Makes before m kind after v = IfSome before (λ w. IsSomeAnd after
    (λ u. IsStep w m kind u × (v ≡ view_of u m) × (Lawful w → Lawful u)))

-- two steps of member m, the one right after the other
abbrev pub AreSteps : Group → ℕ → Kind → Kind → Group → Type 0
AreSteps w m first second u = (mid : Group) × IsStep w m first mid × IsStep mid m second u

abbrev pub MakesBoth : Option Group → ℕ → Kind → Kind → Option Group → View → Type 0
MakesBoth before m first second after v = IfSome before
    (λ w. IsSomeAnd after (λ u. AreSteps w m first second u × (v ≡ view_of u m)
    × (Lawful w → Lawful u)))

-- the slot of member a that a call found, where the state is told
abbrev pub Stood : Option Group → ℕ → ℕ → Slot → Type 0
Stood before a s x = IfSome before (λ w. w.slot a s ≡ x)

-- what the mailbox from member a to member b held
abbrev pub Held : Option Group → ℕ → ℕ → Option Notices → Type 0
Held before a b x = IfSome before (λ w. w.mail a b ≡ option_map notices_of x)

-- what a look answers at a word
abbrev pub state_of : SlotWord → SlotState
state_of words.Empty = Empty
state_of (words.Posted n) = Posted n
state_of words.Taken = Taken
state_of (words.Done h) = Done
state_of words.Failed = Failed

-- the slot in which a change stood that its owner takes back: Done where it has a home, and else Failed
abbrev pub stood_as : Entry → Option ℕ → Slot
stood_as e None = slots.Failed e
stood_as e (Some h) = slots.Done e h

-- the board's place stays, member m's step of this kind leads from the one journal to the other, and a lawful state stays lawful
abbrev pub Leads : BoardJournal → ℕ → Kind → BoardJournal → Type 0
Leads j m kind i = ((state i).place ≡ (state j).place) × IsStep (state j) m kind (state i)
    × (Lawful (state j) → Lawful (state i))
