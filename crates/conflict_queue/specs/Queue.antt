-- What is true of the queue's fields at every moment between two calls.
use Rattle.std.specs.Prelude.{◌≡◌, ℕ, ◌+◌, ◌<◌, ◌≤◌, nat_eq, true, List, ◌++◌, length, Option, None}
use Rattle.std.specs.List.{IsDistinct, list_any}
use Rattle.conflict_queue.specs.declared.nodes.Node.{Node}
use Rattle.conflict_queue.specs.declared.nodes.TheConstants.{NODES}
use Rattle.conflict_queue.specs.declared.key_chains.Chain.{Chain}
use Rattle.conflict_queue.specs.Chains.{IsChain, IsTable, all_held, numbers_of}

-- The free places are one chain that ends, and so are the places of each key. No place is in two of these chains,
-- or twice in one, and every place is in one.
pub record IsQueue (ns : List Node) (cs : List Chain) (first : Option ℕ) (count places : ℕ) :
    Type 0 where
  pub unused : List ℕ
  pub chain : IsChain ns None first unused
  pub free_nodes : length unused ≡ count
  pub table : IsTable ns cs
  pub nodes : length ns ≡ NODES
  pub disjoint : IsDistinct nat_eq (unused ++ numbers_of ns cs)
  pub all : (i : ℕ) → i < NODES → list_any (nat_eq i) (unused ++ numbers_of ns cs) ≡ true
  pub together : length (all_held ns cs) + count ≡ NODES
  pub room : NODES ≤ places
