-- What a step makes of the part of a view that a licence speaks of.
use Rattle.std.specs.Prelude.{◌≡◌, ◌≢◌, ℕ, ◌<◌, true, false, List, [], ◌∷◌, ◌++◌, Some, None, is_some}
use Rattle.pm_region.specs.State.{State, IsTelling, cell_now}
use Rattle.log_entry.specs.declared.entry.Entry.{Entry}
use Rattle.log_entry.specs.declared.entry.EntryName.{EntryName}
use Rattle.log_entry.specs.declared.entry.Body.TheVariants.{Pointer}
use Rattle.store_image.specs.Facts.{In}
use Rattle.core_log.specs.Log.{LogState, StandsIn, tail_of}
use Rattle.core_log.specs.Opening.{EachInChunk, HasNoEntries}
use Rattle.core_log.specs.PartImages.{entries_of}
use Rattle.group_laws.specs.declared.types.Block.{Block}
use Rattle.group_laws.specs.Updates.{has, without, put}
use Rattle.group_laws.specs.MemberViews.{View}
use Rattle.group_laws.specs.Runs.{Kind}
use Rattle.group_laws.specs.Runs.Kind.{Split, Join, Post, Lock, Look, LookMail, Take, Unlock, Commit, Mark, Finish, Fail, Withdraw, Doom, Retire, Send, Receive}

-- Of what a licence speaks of, u has the same entries, certain and in flight; no block that v lacks; and what may vanish by v may vanish by u.
pub record AllowsAll (v u : View) : Type 0 where
  pub kept : u.kept ≡ v.kept
  pub flying : u.flying ≡ v.flying
  pub doomed : (k n : ℕ) → v.doomed k n ≡ true → u.doomed k n ≡ true
  pub blocks : (q : ℕ) (b : Block) → u.blocks q ≡ Some b → v.blocks q ≡ Some b

-- what was in flight is certain
pub record Commits (v u : View) : Type 0 where
  pub kept : u.kept ≡ v.kept ++ v.flying
  pub flying : u.flying ≡ []
  pub doomed : (k n : ℕ) → v.doomed k n ≡ true → u.doomed k n ≡ true
  pub blocks : (q : ℕ) (b : Block) → u.blocks q ≡ Some b → v.blocks q ≡ Some b

-- an entry more is in flight
pub record TakesEntry (e : Entry) (v u : View) : Type 0 where
  pub kept : u.kept ≡ v.kept
  pub flying : u.flying ≡ v.flying ++ e ∷ []
  pub doomed : (k n : ℕ) → v.doomed k n ≡ true → u.doomed k n ≡ true
  pub blocks : (q : ℕ) (b : Block) → u.blocks q ≡ Some b → v.blocks q ≡ Some b

-- the entries of these names, which might vanish, are none of those that are certain
pub record Forgets (ns : List EntryName) (v u : View) : Type 0 where
  pub kept : u.kept ≡ without ns v.kept
  pub flying : u.flying ≡ v.flying
  pub doomed : (k n : ℕ) → has ns k n ≡ false → v.doomed k n ≡ true → u.doomed k n ≡ true
  pub blocks : (q : ℕ) (b : Block) → u.blocks q ≡ Some b → v.blocks q ≡ Some b

-- the block at this pointer must hold these bytes
pub record GainsBlock (q : ℕ) (b : Block) (v u : View) : Type 0 where
  pub kept : u.kept ≡ v.kept
  pub flying : u.flying ≡ v.flying
  pub doomed : (k n : ℕ) → v.doomed k n ≡ true → u.doomed k n ≡ true
  pub blocks : (r : ℕ) (d : Block) → u.blocks r ≡ Some d → put v.blocks q (Some b) r ≡ Some d

-- The step is one of those that say nothing new of the log and the blocks. A commit is one where nothing is in flight, and a post where the entry has no block.
abbrev pub IsQuiet : View → Kind → Type 0
IsQuiet v Split = Unit {0}
IsQuiet v Join = Unit {0}
IsQuiet v (Post s e value) = (q : ℕ) → e.body ≢ Pointer q
IsQuiet v Lock = Unit {0}
IsQuiet v (Look a s) = Unit {0}
IsQuiet v (LookMail a b) = Unit {0}
IsQuiet v (Take a s) = ⊥
IsQuiet v Unlock = Unit {0}
IsQuiet v Commit = v.flying ≡ []
IsQuiet v (Mark a s) = Unit {0}
IsQuiet v (Finish s) = Unit {0}
IsQuiet v (Fail a s) = Unit {0}
IsQuiet v (Withdraw s) = Unit {0}
IsQuiet v (Doom ns) = Unit {0}
IsQuiet v (Retire ns) = ⊥
IsQuiet v (Send to n) = Unit {0}
IsQuiet v (Receive from) = Unit {0}

-- No chunk of the log has an entry of one of these names, and no other chunk of the part has any entry.
pub record HaveVanished (s : State) (log : LogState) (ns : List EntryName) : Type 0 where
  pub stands : StandsIn s log
  pub gone : IsTelling s → (j : ℕ) (e : Entry) → is_some (tail_of log.chunks j) ≡ true
      → In e (entries_of s log j) → has ns e.key e.version ≡ false
  pub others : IsTelling s → (j : ℕ) → j < log.layout.chunks → tail_of log.chunks j ≡ None
      → EachInChunk log j (HasNoEntries log j) (cell_now s)
