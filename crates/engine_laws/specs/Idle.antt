-- What an idle turn says, and where every core is idle.
use Rattle.std.specs.Prelude.{◌≡◌, ◌⊎◌, ℕ, ◌<◌, List, [], true, false, Some, None}
use Rattle.log_entry.specs.declared.entry.Entry.{Entry}
use Rattle.chunk_map.specs.Layouts.{owner}
use Rattle.group_laws.specs.declared.types.Pending.{Pending}
use Rattle.group_laws.specs.declared.types.Seen.{Seen}
use Rattle.group_laws.specs.declared.types.Slot.TheVariants.{Empty, Posted, Taken}
use Rattle.group_laws.specs.Regions.{groups_in}
use Rattle.engine_laws.specs.Parts.{group_of, member_of}
use Rattle.engine_laws.specs.WorkerMoves.{Placed}
use Rattle.engine_laws.specs.Engine.{Engine, group_for}

-- Core c has nothing to do: it leads nothing; each of its changes is posted, and in a leader's hands, or waits for the lock that another has; requests wait for busy keys alone, and in the backlog only while a key is busy.
pub record IsIdle (e : Engine) (c : ℕ) : Type 0 where
  pub holds : (e.group (group_of e.layout c)).holds (member_of e.layout c) ≡ false
  pub taken : (a s : ℕ) → (e.group (group_of e.layout c)).taken (member_of e.layout c) a s ≡ None
  pub placed : (k : ℕ) (x : Placed) → owner e.layout k ≡ c → e.place k ≡ Some x → (x.posted ≡ true)
      × ((p : Pending) (s : ℕ) → (group_for e k).pending k ≡ Some p → p.slot ≡ Some s
      → ((e.group (group_of e.layout c)).slot (member_of e.layout c) s ≡ Taken)
      ⊎ ((d : Entry) × (h : ℕ) × ((e.group (group_of e.layout c)).slot (member_of e.layout c) s
      ≡ Posted d) × ((e.group (group_of e.layout c)).holder ≡ Some h)))
  pub waits : (k : ℕ) → owner e.layout k ≡ c → e.place k ≡ None → e.waits k ≡ []
  pub backlog : ((k : ℕ) → owner e.layout k ≡ c → e.place k ≡ None) → e.backlog c ≡ []

-- A move that moved nothing made loads alone, and left its core idle.
pub record Idles (e f : Engine) (c : ℕ) : Type 0 where
  pub layout : f.layout ≡ e.layout
  pub place : f.place ≡ e.place
  pub waits : f.waits ≡ e.waits
  pub backlog : f.backlog ≡ e.backlog
  pub groups : (g : ℕ) → (xs : ℕ → List Seen) × (f.group g ≡ record (e.group g) { looked = xs })
  pub idle : IsIdle f c

-- nothing is under way
pub record IsDrained (e : Engine) : Type 0 where
  pub place : (k : ℕ) → e.place k ≡ None
  pub waits : (k : ℕ) → e.waits k ≡ []
  pub backlog : (c : ℕ) → c < e.layout.cores → e.backlog c ≡ []
  pub slots : (g m s : ℕ) → g < groups_in e.layout → m < e.layout.group
      → (e.group g).slot m s ≡ Empty
