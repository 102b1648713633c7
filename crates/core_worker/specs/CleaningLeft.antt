-- What is left to do of cleaning: of a core, and of what its group's mailboxes hold. A turn of a cleaning lowers the sum of both.
use Rattle.std.specs.Prelude.{ℕ, ◌+◌, ◌*◌, ◌/◌, Bool, List, [], ◌∷◌, length, Option, Some, None, if◌then◌else◌}
use Rattle.pm_region.specs.declared.region_sizes.TheConstants.{WORD_BYTES}
use Rattle.chunk_map.specs.declared.layout_sizes.TheConstants.{GREATEST_CHUNK}
use Rattle.log_standing.specs.NameCounts.{StandingState}
use Rattle.core_index.specs.Index.{all_untold}
use Rattle.core_index.specs.Slots as slots
use Rattle.group_laws.specs.State.{Notices}
use Rattle.group_board.specs.declared.names.Notices.{Notices as ToSend}
use Rattle.group_board.specs.Mailing.{notices_of}
use Rattle.group_laws.specs.Updates.{sum_below}
use Rattle.core_worker.specs.declared.types.Cleaning.{Cleaning}
use Rattle.core_worker.specs.declared.types.Cleaning.TheVariants as cleanings

-- as many words as the greatest chunk of any layout has
abbrev pub most_words : ℕ
most_words = GREATEST_CHUNK / WORD_BYTES

-- A cleaning copies no more entries than a chunk has words, and then takes three turns at most.
abbrev pub cleaning_most : ℕ
cleaning_most = most_words + 3

-- none is begun without a request accepted since the last
abbrev pub may_begin_left : Bool → ℕ
may_begin_left accepted = if accepted then cleaning_most else 0

abbrev pub cleaning_left : Cleaning → ℕ
cleaning_left cleanings.Nothing = 0
cleaning_left (cleanings.Copying victim first) = victim.entries + 2
cleaning_left (cleanings.Doomed chunk) = 1

-- how many names these notices have
abbrev pub notices_left : Notices → ℕ
notices_left n = length n.dead + length n.gone

abbrev pub box_left : List ToSend → ℕ
box_left [] = 0
box_left (n ∷ ns) = notices_left (notices_of n) + box_left ns

-- a mailbox is to be emptied, whether it has a name or not
abbrev pub mailbox_left : Option Notices → ℕ
mailbox_left None = 0
mailbox_left (Some n) = 1 + notices_left n

-- all mailboxes of so many members, by who sends and who receives
unfoldable pub mail_left : ℕ → (ℕ → ℕ → Option Notices) → ℕ
mail_left members mail = sum_below members (λ a. sum_below members (λ h. mailbox_left (mail a h)))

-- A name that stands in a log counts so much, since it may wait to be sent once it is gone; and so does one that waits to be sent: then it is in a mailbox, which counts one more than its names.
abbrev pub name_left : ℕ
name_left = 3

-- an own name that was not told counts one more
abbrev pub own_left : ℕ
own_left = 4

-- a core's part
unfoldable pub clears_left : Bool → Cleaning → StandingState → List (ℕ × slots.Place)
    → List ToSend → ℕ
clears_left accepted cleaning st es out = may_begin_left accepted + (cleaning_left cleaning
    + (name_left * length st.entries + (own_left * all_untold es + name_left * box_left out)))
