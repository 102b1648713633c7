-- How a worker sits in an engine's state, and what the engine itself sees to in a call of it.
use Rattle.std.specs.Prelude.{◌≡◌, ◌≢◌, ℕ, ◌<◌, List, ◌++◌, Some}
use Rattle.fs_model.specs.declared.model.Request.{Request}
use Rattle.fs_model.specs.Cells.{key_of}
use Rattle.chunk_map.specs.Layouts.{owner}
use Rattle.store_image.specs.Facts.{In}
use Rattle.group_laws.specs.MemberViews.{View, view_of}
use Rattle.group_laws.specs.Runs.{Kind}
use Rattle.group_laws.specs.Runs.Kind.{Split, Join, Post, Lock, Look, LookMail, Take, Unlock, Commit, Mark, Finish, Fail, Withdraw, Doom, Retire, Send, Receive}
use Rattle.engine_laws.specs.Parts.{group_of, member_of}
use Rattle.engine_laws.specs.FreeStock.{IsAtLeast}
use Rattle.engine_laws.specs.WorkerMoves.{Hands, Fixed}
use Rattle.engine_laws.specs.Engine.{Engine}

-- The worker of core c in an engine's state: its view, and what it holds.
pub record Sits (e : Engine) (c : ℕ) (v : View) (w : Hands) : Type 0 where
  pub view : v ≡ view_of (e.group (group_of e.layout c)) (member_of e.layout c)
  pub place : (k : ℕ) → owner e.layout k ≡ c → w.place k ≡ e.place k
  pub waits : (k : ℕ) → owner e.layout k ≡ c → w.waits k ≡ e.waits k
  pub stopped : w.stopped ≡ e.stopped c
  pub stock : IsAtLeast (e.stock c) w.stock

-- What the engine itself sees to: the requests, the answers, and that it touches no other core.
pub record Around (e f : Engine) (c : ℕ) (accepted : List (ℕ × Request))
    (fixed : List Fixed) : Type 0 where
  pub core : c < e.layout.cores
  pub layout : f.layout ≡ e.layout
  pub other_groups : (g : ℕ) → g ≢ group_of e.layout c → f.group g ≡ e.group g
  pub given : f.given ≡ e.given
  pub backlog : e.backlog c ≡ accepted ++ f.backlog c
  pub other_backlogs : (d : ℕ) → d ≢ c → f.backlog d ≡ e.backlog d
  pub own_keys : (x : ℕ × Request) → In x accepted → owner e.layout (key_of x.1) ≡ c
  pub other_keys : (k : ℕ) → owner e.layout k ≢ c → (f.place k ≡ e.place k)
      × (f.waits k ≡ e.waits k)
  pub other_stops : (d : ℕ) → d ≢ c → f.stopped d ≡ e.stopped d
  pub other_takes : (d : ℕ) → d ≢ c → f.takes d ≡ e.takes d
  pub other_stocks : (d : ℕ) → d ≢ c → f.stock d ≡ e.stock d
  pub new_answers : (x : Fixed) → In x fixed → f.answer x.number
      ≡ Some (record { reply = x.reply; stamp = f.region.stamp })
  pub old_answers : (n : ℕ) → ((x : Fixed) → In x fixed → x.number ≢ n) → f.answer n ≡ e.answer n

-- a step that only loads: a look, or a try of the lock
abbrev pub IsLoad : Kind → Type 0
IsLoad Split = ⊥
IsLoad Join = ⊥
IsLoad (Post s e v) = ⊥
IsLoad Lock = Unit {0}
IsLoad (Look a s) = Unit {0}
IsLoad (LookMail a b) = Unit {0}
IsLoad (Take a s) = ⊥
IsLoad Unlock = ⊥
IsLoad Commit = ⊥
IsLoad (Mark a s) = ⊥
IsLoad (Finish s) = ⊥
IsLoad (Fail a s) = ⊥
IsLoad (Withdraw s) = ⊥
IsLoad (Doom ns) = ⊥
IsLoad (Retire ns) = ⊥
IsLoad (Send to n) = ⊥
IsLoad (Receive from) = ⊥
