-- What a journal tells: the state that its steps lead to.
use Rattle.std.specs.Prelude.{ℕ, List, [], ◌∷◌, cond, eqb, get_or, map, Option, Some, None}
use Rattle.log_entry.specs.declared.entry.Entry.{Entry}
use Rattle.log_entry.specs.declared.entry.EntryName.{EntryName}
use Rattle.chunk_map.specs.Layouts.{layout_of}
use Rattle.group_laws.specs.Places.{Place}
use Rattle.group_laws.specs.State.{Group}
use Rattle.group_laws.specs.Steps.{posts, locks, finds, takes, unlocks, commits, marks, fails, finishes, gives_up, withdraws, dooms, retires, sends, receives}
use Rattle.group_laws.specs.OpeningImages.{entries_of, opened}
use Rattle.group_laws.specs.Runs.{Kind}
use Rattle.group_laws.specs.MemberViews.{view_of}
use Rattle.group_board.specs.Trails.{TrailStep, step_with}
use Rattle.group_laws.specs.declared.types.Seen.{Seen}
use Rattle.group_laws.specs.declared.types.Seen.TheVariants.{Holder, Slot, Mail}
use Rattle.group_board.specs.Tidies.{tidied}
use Rattle.group_board.specs.declared.board_journal.Act.{Act}
use Rattle.group_board.specs.declared.board_journal.Act.TheVariants.{Post, Lock, Found, Take, Unlock, Commit, Mark, Fail, Finish, GiveUp, Withdraw, Doom, Retire, Send, Receive}
use Rattle.group_board.specs.declared.board_journal.Note.{Note}
use Rattle.group_board.specs.declared.board_journal.BoardJournal.{BoardJournal}

-- the words by number; behind the last there are zeros
abbrev pub image_of : List ℕ → ℕ → ℕ
image_of ws i = get_or ws i 0

-- the group with this number, in the layout that the words say
abbrev pub place_in : ℕ → List ℕ → Place
place_in g ws = record { layout = layout_of (image_of ws); group = g }

-- a journal with no steps yet
abbrev pub begun : ℕ → List ℕ → BoardJournal
begun g ws = record { group = g; words = ws; notes = [] }

abbrev pub note_of : ℕ → Act → Note
note_of m a = record { member = m; act = a }

-- the journal with one step more
abbrev pub noted : Note → BoardJournal → BoardJournal
noted n j = record j { notes = n ∷ j.notes }

abbrev pub name_of : Entry → EntryName
name_of e = record { key = e.key; version = e.version }

-- the names, with the one of the entry that the step finished
abbrev pub with_finished : Act → List EntryName → List EntryName
with_finished (Post s e v at) ns = ns
with_finished Lock ns = ns
with_finished (Found x) ns = ns
with_finished (Take a s e) ns = ns
with_finished Unlock ns = ns
with_finished (Commit at) ns = ns
with_finished (Mark a s e) ns = ns
with_finished (Fail a s e) ns = ns
with_finished (Finish s e h) ns = name_of e ∷ ns
with_finished (GiveUp s e) ns = ns
with_finished (Withdraw s e) ns = ns
with_finished (Doom xs at) ns = ns
with_finished (Retire xs at) ns = ns
with_finished (Send to dead gone) ns = ns
with_finished (Receive from dead gone) ns = ns

-- what member m's step makes of a state; the names are all that may stand after it
abbrev pub effect : List EntryName → Group → ℕ → Act → Group
effect ns w m (Post s e v at) = posts w m s e v
effect ns w m Lock = locks w m
effect ns w m (Found x) = finds w m x
effect ns w m (Take a s e) = takes w m a s e
effect ns w m Unlock = unlocks w m
effect ns w m (Commit at) = commits w m
effect ns w m (Mark a s e) = marks w m a s e
effect ns w m (Fail a s e) = fails w m a s e
effect ns w m (Finish s e h) = tidied (finishes w m s e h) ns m
effect ns w m (GiveUp s e) = tidied (gives_up w m s e) ns m
effect ns w m (Withdraw s e) = withdraws w m s e
effect ns w m (Doom xs at) = dooms w m xs
effect ns w m (Retire xs at) = tidied (retires w m xs) ns m
effect ns w m (Send to dead gone) = sends w m to (record { dead = dead; gone = gone })
effect ns w m (Receive from dead gone) = tidied (receives w m from
    (record { dead = dead; gone = gone })) ns m

abbrev pub names_after : List EntryName → List Note → List EntryName
names_after ns [] = ns
names_after ns (x ∷ xs) = with_finished x.act (names_after ns xs)

abbrev pub state_after : List EntryName → Group → List Note → Group
state_after ns w [] = w
state_after ns w (x ∷ xs) = effect (names_after ns (x ∷ xs)) (state_after ns w xs) x.member x.act

-- the names with which the group opened
abbrev pub names_in : ℕ → List ℕ → List EntryName
names_in g ws = map (λ x. name_of x.entry) (entries_of (place_in g ws) (image_of ws))

-- the names of all entries with which the group opened or that it finished
unfoldable pub names : BoardJournal → List EntryName
names j = names_after (names_in j.group j.words) j.notes

-- the state of the group after the steps of the journal
unfoldable pub state : BoardJournal → Group
state j = state_after (names_in j.group j.words) (opened (place_in j.group j.words)
    (image_of j.words)) j.notes

-- a try of the lock where it has this holder
abbrev pub lock_act : Option ℕ → Act
lock_act None = Lock
lock_act (Some h) = Found (Holder h)

-- what an owner does with its change that a leader gave back with this home
abbrev pub finish_act : ℕ → Entry → Option ℕ → Act
finish_act s e None = GiveUp s e
finish_act s e (Some h) = Finish s e h

-- the step of the machine that a load is
abbrev pub kind_seen : Seen → Kind
kind_seen (Slot a s w) = Kind.Look a s
kind_seen (Mail a b full) = Kind.LookMail a b
kind_seen (Holder h) = Kind.Lock

-- the step of the machine that an act is
abbrev pub kind_of : Act → Kind
kind_of (Post s e v at) = Kind.Post s e v
kind_of Lock = Kind.Lock
kind_of (Found x) = kind_seen x
kind_of (Take a s e) = Kind.Take a s
kind_of Unlock = Kind.Unlock
kind_of (Commit at) = Kind.Commit
kind_of (Mark a s e) = Kind.Mark a s
kind_of (Fail a s e) = Kind.Fail a s
kind_of (Finish s e h) = Kind.Finish s
kind_of (GiveUp s e) = Kind.Finish s
kind_of (Withdraw s e) = Kind.Withdraw s
kind_of (Doom xs at) = Kind.Doom xs
kind_of (Retire xs at) = Kind.Retire xs
kind_of (Send to dead gone) = Kind.Send to (record { dead = dead; gone = gone })
kind_of (Receive from dead gone) = Kind.Receive from

abbrev pub steps_by : List EntryName → Group → ℕ → List Note → List TrailStep
steps_by ns w m [] = []
steps_by ns w m (x ∷ xs) = cond (eqb m x.member)
    (step_with (kind_of x.act) (view_of (state_after ns w (x ∷ xs)) m) ∷ steps_by ns w m xs)
    (steps_by ns w m xs)

-- the steps that a member made, the newest first, each with its view after it
abbrev pub trail_in : ℕ → BoardJournal → List TrailStep
trail_in m j = steps_by (names_in j.group j.words) (opened (place_in j.group j.words)
    (image_of j.words)) m j.notes

-- the stamp of a step that is handed the region
abbrev pub at_or : ℕ → Act → ℕ
at_or n (Post s e v at) = at
at_or n Lock = n
at_or n (Found x) = n
at_or n (Take a s e) = n
at_or n Unlock = n
at_or n (Commit at) = at
at_or n (Mark a s e) = n
at_or n (Fail a s e) = n
at_or n (Finish s e h) = n
at_or n (GiveUp s e) = n
at_or n (Withdraw s e) = n
at_or n (Doom xs at) = at
at_or n (Retire xs at) = at
at_or n (Send to dead gone) = n
at_or n (Receive from dead gone) = n

abbrev pub at_by : ℕ → List Note → ℕ
at_by m [] = 0
at_by m (x ∷ xs) = cond (eqb m x.member) (at_or (at_by m xs) x.act) (at_by m xs)

-- the stamp at which the member's region stood that was handed to its newest such step
abbrev pub at_in : ℕ → BoardJournal → ℕ
at_in m j = at_by m j.notes
