-- Places linked by their numbers, and the table of the keys' chains.
use Rattle.std.specs.Prelude.{◌≡◌, ◌≢◌, ℕ, zero, suc, ◌<◌, ◌≤◌, List, [], ◌∷◌, ◌++◌, length, Option, Some, None, option_to_list, slice_index_or}
use Rattle.std.specs.List.{AllByRecursion}
use Rattle.fs_model.specs.Cells.{key_of}
use Rattle.conflict_queue.specs.declared.types.Held.{Held}
use Rattle.conflict_queue.specs.declared.nodes.Node.{Node}
use Rattle.conflict_queue.specs.declared.key_chains.Chain.{Chain}
use Rattle.conflict_queue.specs.Waiting.{AddsLast, TakesFirst}

abbrev pub bare : Node
bare = record { held = None; next = None }

abbrev pub node_with : Option Held → Option ℕ → Node
node_with h n = record { held = h; next = n }

abbrev pub held_at : List Node → ℕ → Option Held
held_at ns i = (slice_index_or ns i bare).held

abbrev pub next_of : List Node → ℕ → Option ℕ
next_of ns i = (slice_index_or ns i bare).next

-- the key of what a place holds, or none of a free place
abbrev pub key_held : Option Held → Option ℕ
key_held None = None
key_held (Some h) = Some (key_of h.request)

-- The places of these numbers are a chain that begins at `at`, ends, and holds requests of one key, or nothing.
abbrev pub IsChain : List Node → Option ℕ → Option ℕ → List ℕ → Type 0
IsChain ns k at [] = at ≡ None
IsChain ns k at (x ∷ xs) = (at ≡ Some x) × (x < length ns) × (key_held (held_at ns x) ≡ k)
    × IsChain ns k (next_of ns x) xs

-- the numbers that are met from one on, at most n of them
abbrev pub followed : List Node → ℕ → Option ℕ → List ℕ
followed ns zero at = []
followed ns (suc n) None = []
followed ns (suc n) (Some i) = i ∷ followed ns n (next_of ns i)

abbrev pub numbers_from : List Node → Option ℕ → List ℕ
numbers_from ns at = followed ns (length ns) at

-- what the places of these numbers hold
abbrev pub held_in : List Node → List ℕ → List Held
held_in ns [] = []
held_in ns (x ∷ xs) = option_to_list (held_at ns x) ++ held_in ns xs

abbrev pub last_of : ℕ → List ℕ → ℕ
last_of x [] = x
last_of x (y ∷ ys) = last_of y ys

abbrev pub chain_with : ℕ → ℕ → ℕ → Chain
chain_with k first last = record { key = k; first = first; last = last }

abbrev pub held_by : List Node → Chain → List Held
held_by ns c = held_in ns (numbers_from ns (Some c.first))

-- all that waits, chain by chain
abbrev pub all_held : List Node → List Chain → List Held
all_held ns [] = []
all_held ns (c ∷ cs) = held_by ns c ++ all_held ns cs

-- the numbers of all places that hold something, chain by chain
abbrev pub numbers_of : List Node → List Chain → List ℕ
numbers_of ns [] = []
numbers_of ns (c ∷ cs) = numbers_from ns (Some c.first) ++ numbers_of ns cs

-- the chain of a key: its places hold requests of that key, and its last one is known
pub record IsKeyChain (ns : List Node) (c : Chain) : Type 0 where
  pub rest : List ℕ
  pub chain : IsChain ns (Some c.key) (Some c.first) (c.first ∷ rest)
  pub last : last_of c.first rest ≡ c.last
  pub short : length rest < length ns

abbrev pub Lacks : List Chain → ℕ → Type 0
Lacks cs k = AllByRecursion (λ c. c.key ≢ k) cs

abbrev pub HasEachKeyOnce : List Chain → Type 0
HasEachKeyOnce [] = Unit {0}
HasEachKeyOnce (c ∷ cs) = Lacks cs c.key × HasEachKeyOnce cs

pub record IsTable (ns : List Node) (cs : List Chain) : Type 0 where
  pub chains : AllByRecursion (IsKeyChain ns) cs
  pub keys : HasEachKeyOnce cs

abbrev pub IsNotIn : ℕ → List ℕ → Type 0
IsNotIn i xs = AllByRecursion (λ x. x ≢ i) xs

abbrev pub none : Chain
none = chain_with 0 0 0

-- the index of the key's chain, or the table's length where it lacks the key
pub record IsPlace (cs : List Chain) (k i : ℕ) : Type 0 where
  pub within : i ≤ length cs
  pub found : i < length cs → (slice_index_or cs i none).key ≡ k
  pub absent : length cs ≤ i → Lacks cs k

-- a chain of free places without this one stays
abbrev pub KeepsFree : List Node → List Node → ℕ → Type 0
KeepsFree old new i = (at : Option ℕ) (xs : List ℕ) → IsChain old None at xs → IsNotIn i xs
    → IsChain new None at xs

-- this place comes before the chain of free ones that begins at `at`
abbrev pub GainsFree : List Node → List Node → Option ℕ → ℕ → Type 0
GainsFree old new at i = (xs : List ℕ) → IsChain old None at xs → IsChain new None (Some i) (i ∷ xs)

-- A free place became the last one of the key's chain.
pub record Extends (ns : List Node) (cs : List Chain) (ms : List Node) (ds : List Chain) (i : ℕ)
    (h : Held) : Type 0 where
  pub table : IsTable ms ds
  pub added : AddsLast (all_held ns cs) (all_held ms ds) h
  pub rest : KeepsFree ns ms i
  pub nodes : length ms ≡ length ns

-- The first place of a chain became a free one, before those from `at` on.
pub record Shortens (ns : List Node) (cs : List Chain) (ms : List Node) (ds : List Chain)
    (at : Option ℕ) (c : Chain) (h : Held) : Type 0 where
  pub table : IsTable ms ds
  pub taken : TakesFirst (all_held ns cs) (all_held ms ds) c.key h
  pub free : GainsFree ns ms at c.first
  pub nodes : length ms ≡ length ns

-- every place is free, in one chain
pub record AllFree (ns : List Node) (first : Option ℕ) : Type 0 where
  pub numbers : List ℕ
  pub chain : IsChain ns None first numbers
  pub all : length numbers ≡ length ns

-- the last of so many places
abbrev pub last_below : ℕ → Option ℕ
last_below zero = None
last_below (suc n) = Some n
