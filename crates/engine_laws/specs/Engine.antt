-- The state of a replay on several cores, as its promises read it.
use Rattle.std.specs.Prelude.{ℕ, List, ◌++◌, Bool, Option}
use Rattle.fs_model.specs.declared.model.Request.{Request}
use Rattle.fs_model.specs.declared.model.Reply.{Reply}
use Rattle.pm_region.specs.State.{State}
use Rattle.chunk_map.specs.declared.layouts.Geometry.{Geometry}
use Rattle.group_laws.specs.State.{Group}
use Rattle.group_laws.specs.Regions.{key_group}
use Rattle.engine_laws.specs.FreeStock.{Stock}
use Rattle.engine_laws.specs.WorkerMoves.{Placed, request_placed}

-- the answer to a request, and the region's stamp after the move that fixed it
pub record Answer : Type 0 where
  pub reply : Reply
  pub stamp : ℕ

-- Where a replay stands between two moves. What a worker holds of a key stands under the key, since each key has one owner.
pub record Engine : Type 0 where
  pub layout : Geometry
  pub region : State
  -- the groups, by number
  pub group : ℕ → Group
  -- the requests so far; their index is their number
  pub given : List Request
  -- by core: requests that its worker has not accepted yet, whether it accepts the next one, and whether it has stopped
  pub backlog : ℕ → List (ℕ × Request)
  pub takes : ℕ → Bool
  pub stopped : ℕ → Bool
  -- by core: what its worker has free, at least
  pub stock : ℕ → Stock
  -- by key: its change in a place of its owner's worker, and the accepted requests that wait for it, in order of arrival
  pub place : ℕ → Option Placed
  pub waits : ℕ → List (ℕ × Request)
  -- by number
  pub answer : ℕ → Option Answer

-- the state of the key's group, and the key's cell there: what its finished changes left
abbrev pub group_for : Engine → ℕ → Group
group_for e k = e.group (key_group e.layout k)

abbrev pub cell_at : Engine → ℕ → Option (List ℕ)
cell_at e k = (group_for e k).cell k

-- the accepted requests of a key without an answer, in their order
abbrev pub line : Engine → ℕ → List (ℕ × Request)
line e k = request_placed (e.place k) ++ e.waits k
