-- What a turn of a core that winds down says where it found nothing to do, and where every core has ceased.
use Rattle.std.specs.Prelude.{◌≡◌, ◌⊎◌, ℕ, ◌<◌, true, false, List, Some, None}
use Rattle.log_entry.specs.declared.entry.Entry.{Entry}
use Rattle.chunk_map.specs.Layouts.{owner}
use Rattle.group_laws.specs.declared.types.Pending.{Pending}
use Rattle.group_laws.specs.declared.types.Seen.{Seen}
use Rattle.group_laws.specs.declared.types.Slot.TheVariants.{Empty, Posted, Taken}
use Rattle.group_laws.specs.Regions.{groups_in}
use Rattle.engine_laws.specs.Parts.{group_of, member_of}
use Rattle.engine_laws.specs.WorkerMoves.{Placed}
use Rattle.engine_laws.specs.Engine.{Engine, group_for}

-- Core c leads nothing; each of its posted changes is in a leader's hands, or waits for the lock that another has.
pub record IsResting (e : Engine) (c : ℕ) : Type 0 where
  pub holds : (e.group (group_of e.layout c)).holds (member_of e.layout c) ≡ false
  pub taken : (a s : ℕ) → (e.group (group_of e.layout c)).taken (member_of e.layout c) a s ≡ None
  pub posted : (k : ℕ) (x : Placed) → owner e.layout k ≡ c → e.place k ≡ Some x → x.posted ≡ true
      → (p : Pending) (s : ℕ) → (group_for e k).pending k ≡ Some p → p.slot ≡ Some s
      → ((e.group (group_of e.layout c)).slot (member_of e.layout c) s ≡ Taken)
      ⊎ ((d : Entry) × (h : ℕ) × ((e.group (group_of e.layout c)).slot (member_of e.layout c) s
      ≡ Posted d) × ((e.group (group_of e.layout c)).holder ≡ Some h))

-- A turn that moved nothing made loads alone, and left its core resting.
pub record Halts (e f : Engine) (c : ℕ) : Type 0 where
  pub layout : f.layout ≡ e.layout
  pub place : f.place ≡ e.place
  pub groups : (g : ℕ) → (xs : ℕ → List Seen) × (f.group g ≡ record (e.group g) { looked = xs })
  pub rests : IsResting f c

-- All cores rest.
abbrev pub AllRest : Engine → Type 0
AllRest e = (c : ℕ) → c < e.layout.cores → IsResting e c

-- What was posted or taken is finished: every slot is empty, no place has a posted change, and nobody leads. What is staged or waits is left.
pub record HasCeased (e : Engine) : Type 0 where
  pub posted : (k : ℕ) (x : Placed) → e.place k ≡ Some x → x.posted ≡ false
  pub slots : (g m s : ℕ) → g < groups_in e.layout → m < e.layout.group
      → (e.group g).slot m s ≡ Empty
  pub leads : (g h : ℕ) → g < groups_in e.layout → (e.group g).holder ≡ Some h → ⊥
