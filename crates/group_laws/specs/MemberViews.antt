-- What one member of a group has. Of a key it has something only where the key is its own.
use Rattle.std.specs.Prelude.{ℕ, Bool, false, cond, eqb, List, Option, None}
use Rattle.log_entry.specs.declared.entry.Entry.{Entry}
use Rattle.group_laws.specs.declared.types.Pending.{Pending}
use Rattle.group_laws.specs.declared.types.Block.{Block}
use Rattle.group_laws.specs.declared.types.Seen.{Seen}
use Rattle.group_laws.specs.Places.{Place, owner}
use Rattle.group_laws.specs.State.{Notices, Group}

-- The fields are those of a group's state, each for this one member: the records of a key by key, of names by key and version.
pub record View : Type 0 where
  pub kept : List Entry
  pub flying : List Entry
  pub taken : ℕ → ℕ → Option Entry
  pub broken : Bool
  pub holds : Bool
  pub looked : List Seen
  pub last : ℕ → ℕ
  pub cell : ℕ → Option (List ℕ)
  pub pending : ℕ → Option Pending
  pub present : ℕ → ℕ → Option ℕ
  pub told : ℕ → ℕ → Bool
  pub dead : ℕ → ℕ → Bool
  pub doomed : ℕ → ℕ → Bool
  pub leaving : ℕ → ℕ → Bool
  pub mailed : ℕ → Notices
  pub blocks : ℕ → Option Block
  pub posted : List Entry
  pub took : List Entry

-- x where m owns the key, and d of any other key
abbrev pub of_own : {X : Type 0} → Place → ℕ → ℕ → X → X → X
of_own p m k x d = cond (eqb (owner p k) m) x d

-- what member m has in this state
abbrev pub view_of : Group → ℕ → View
view_of w m =
    record {
      kept = w.kept m;
      flying = w.flying m;
      taken = w.taken m;
      broken = w.broken m;
      holds = w.holds m;
      looked = w.looked m;
      last = λ k. of_own w.place m k (w.last k) 0;
      cell = λ k. of_own w.place m k (w.cell k) None;
      pending = λ k. of_own w.place m k (w.pending k) None;
      present = λ k v. of_own w.place m k (w.present k v) None;
      told = λ k v. of_own w.place m k (w.told k v) false;
      dead = w.dead m;
      doomed = w.doomed m;
      leaving = w.leaving m;
      mailed = w.mailed m;
      blocks = w.blocks m;
      posted = w.posted m;
      took = w.took m;
    }
