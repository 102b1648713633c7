-- Names that homes are to be told.
use Rattle.std.specs.Prelude.{◌≡◌, ◌≢◌, ◌⊎◌, ℕ, ◌+◌, ◌<◌, ◌==◌, ◌%◌, ◌≤◌, List, [], ◌∷◌, length, slice_index_or, Option, Some, None, Bool, true, false, if◌then◌else◌}
use Rattle.std.specs.List.{AllByRecursion}
use Rattle.log_entry.specs.declared.entry.EntryName.{EntryName}
use Rattle.core_index.specs.declared.death_notices.NoticeNode.{NoticeNode}
use Rattle.core_index.specs.declared.types.StandingEntry.{StandingEntry}
use Rattle.core_index.specs.Records.{KeyRecord, dies_of, standing_of}

abbrev pub name_with : ℕ → ℕ → EntryName
name_with k v = record { key = k; version = v }

abbrev pub node_with : EntryName → Option ℕ → Option ℕ → NoticeNode
node_with n home next = record { name = n; home = home; next = next }

abbrev pub bare : NoticeNode
bare = node_with (name_with 0 0) None None

abbrev pub home_at : List NoticeNode → ℕ → Option ℕ
home_at ns i = (slice_index_or ns i bare).home

abbrev pub name_at : List NoticeNode → ℕ → EntryName
name_at ns i = (slice_index_or ns i bare).name

abbrev pub next_at : List NoticeNode → ℕ → Option ℕ
next_at ns i = (slice_index_or ns i bare).next

-- the places, how many of them have a name, and for how many more there is room
pub record Book : Type 0 where
  pub nodes : List NoticeNode
  pub used : ℕ
  pub spare : ℕ

-- a place has this name for this home
pub record Noted (b : Book) (home : ℕ) (n : EntryName) : Type 0 where
  pub at : ℕ
  pub within : at < length b.nodes
  pub home_is : home_at b.nodes at ≡ Some home
  pub name_is : name_at b.nodes at ≡ n

abbrev pub is_for : ℕ → Option ℕ → Bool
is_for home None = false
is_for home (Some h) = h == home

-- the place has a name for this home
pub record IsFor (ns : List NoticeNode) (home i : ℕ) : Type 0 where
  pub within : i < length ns
  pub here : (d : NoticeNode) → is_for home (slice_index_or ns i d).home ≡ true

-- no place has a name for this home
abbrev pub LacksHome : ℕ → List NoticeNode → Type 0
LacksHome home ns = AllByRecursion (λ n. is_for home n.home ≡ false) ns

-- Names are linked in eight chains by their homes, and free places in one behind these.
abbrev pub chain_of : Option ℕ → ℕ
chain_of None = 8
chain_of (Some home) = home % 8

-- The places of these numbers are met from one on, and no others.
abbrev pub Follows : List NoticeNode → Option ℕ → List ℕ → Type 0
Follows ns at [] = at ≡ None
Follows ns at (x ∷ xs) = (at ≡ Some x) × (x < length ns) × Follows ns (next_at ns x) xs

abbrev pub In : ℕ → List ℕ → Type 0
In n [] = ⊥
In n (x ∷ xs) = (x ≡ n) ⊎ In n xs

abbrev pub Lacks : ℕ → List ℕ → Type 0
Lacks n xs = AllByRecursion (λ x. x ≢ n) xs

abbrev pub Once : List ℕ → Type 0
Once [] = Unit {0}
Once (x ∷ xs) = Lacks x xs × Once xs

-- The chain that begins at a place has exactly the places of its homes, each once.
pub record IsChain (ns : List NoticeNode) (at : Option ℕ) (c : ℕ) : Type 0 where
  pub numbers : List ℕ
  pub follows : Follows ns at numbers
  pub once : Once numbers
  pub own : AllByRecursion (λ x. chain_of (home_at ns x) ≡ c) numbers
  pub all : (j : ℕ) → j < length ns → chain_of (home_at ns j) ≡ c → In j numbers

pub record AreChains (ns : List NoticeNode) (hs : List (Option ℕ)) : Type 0 where
  pub nine : length hs ≡ 9
  pub each : (c : ℕ) (d : Option ℕ) → c < 9 → IsChain ns (slice_index_or hs c d) c

abbrev pub one_used : Option ℕ → ℕ
one_used None = 0
one_used (Some h) = 1

abbrev pub count_used : List NoticeNode → ℕ
count_used [] = 0
count_used (n ∷ ns) = one_used n.home + count_used ns

-- What is true of the fields of such a book.
pub record IsBook (ns : List NoticeNode) (hs : List (Option ℕ)) (used spare : ℕ) : Type 0 where
  pub chains : AreChains ns hs
  pub count : used ≡ count_used ns
  pub room : spare + used ≤ length ns

-- free places were added
pub record Grows (old new : List NoticeNode) : Type 0 where
  pub longer : length old ≤ length new
  pub same : (i : ℕ) (d : NoticeNode) → i < length old
      → slice_index_or new i d ≡ slice_index_or old i d
  pub count : count_used new ≡ count_used old

abbrev pub NotedIfDead : Book → ℕ → Option KeyRecord → StandingEntry → Type 0
NotedIfDead b k o s = dies_of o s.version ≡ true → Noted b s.home (name_with k s.version)

-- how many of these entries of a key are dead
abbrev pub count_dead_in : Option KeyRecord → List StandingEntry → ℕ
count_dead_in o [] = 0
count_dead_in o (s ∷ ss) = (if dies_of o s.version then 1 else 0) + count_dead_in o ss

-- how many entries of the key stand and are dead
abbrev pub deaths_of : Option KeyRecord → ℕ
deaths_of o = count_dead_in o (standing_of o)
