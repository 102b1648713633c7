-- The state that a group opens with on what its parts say.
use Rattle.std.specs.Prelude.{◌≡◌, ◌≢◌, ℕ, zero, suc, ◌<◌, true, false, List, [], length, Some, None, ◌⊎◌, ◌↔◌}
use Rattle.log_entry.specs.declared.entry.Body.TheVariants.{Pointer}
use Rattle.log_entry.specs.declared.entry.Entry.{Entry}
use Rattle.store_image.specs.Facts.{In}
use Rattle.group_laws.specs.declared.types.Slot.TheVariants.{Empty}
use Rattle.group_laws.specs.declared.types.Block.{Block}
use Rattle.group_laws.specs.Places.{Place, IsPlace, members, owner, units, LiesIn, Apart}
use Rattle.group_laws.specs.State.{Group}
use Rattle.group_laws.specs.Tidying.{Tidied}
use Rattle.group_laws.specs.Crashes.{Contents, IsWinner, HasNone, Leaves}

-- the rules of soundness, and how the blocks of a part lie
pub record IsSound (at : Place) (x : Contents) : Type 0 where
  pub group : (h : ℕ) (e : Entry) → x.entries h e ≡ true → (h < members at)
      × (owner at e.key < members at)
  pub from_one : (h : ℕ) (e : Entry) → x.entries h e ≡ true → 0 < e.version
  pub one_body : (h i : ℕ) (e f : Entry) → x.entries h e ≡ true → x.entries i f ≡ true
      → e.key ≡ f.key → e.version ≡ f.version → (h ≡ i) × (e ≡ f)
  pub block : (k p : ℕ) (e : Entry) → IsWinner x k e → e.body ≡ Pointer p → (v : List ℕ)
      × (x.holds (owner at k) p ≡ Some v)
  pub lies : (m p : ℕ) (v : List ℕ) → x.holds m p ≡ Some v → LiesIn at m p (units (length v))
  pub apart : (m p q : ℕ) (v u : List ℕ) → x.holds m p ≡ Some v → x.holds m q ≡ Some u → p ≢ q
      → Apart p (units (length v)) q (units (length u))
  pub one_key : (k l p : ℕ) (e f : Entry) → IsWinner x k e → IsWinner x l f → e.body ≡ Pointer p
      → f.body ≡ Pointer p → k ≡ l

-- Before the two rules: the logs as they stand, each key as its winner has it, the winners' blocks, and nothing under way.
pub record IsFound (w : Group) (x : Contents) : Type 0 where
  pub place : IsPlace w.place
  pub holder : w.holder ≡ None
  pub slot : (m s : ℕ) → w.slot m s ≡ Empty
  pub mail : (a b : ℕ) → w.mail a b ≡ None
  pub kept : (h : ℕ) (e : Entry) → In e (w.kept h) ↔ (x.entries h e ≡ true)
  pub flying : (h : ℕ) → w.flying h ≡ []
  pub taken : (h a s : ℕ) → w.taken h a s ≡ None
  pub broken : (h : ℕ) → w.broken h ≡ false
  pub holds : (h : ℕ) → w.holds h ≡ false
  pub looked : (h : ℕ) → w.looked h ≡ []
  pub last : (k : ℕ) → (HasNone x k × (w.last k ≡ 0) × (w.cell k ≡ None))
      ⊎ ((e : Entry) × IsWinner x k e × (w.last k ≡ e.version)
      × Leaves (x.holds (owner w.place k)) e.body (w.cell k))
  pub pending : (k : ℕ) → w.pending k ≡ None
  pub present : (k v h : ℕ) → (w.present k v ≡ Some h) ↔ ((e : Entry) × (x.entries h e ≡ true)
      × (e.key ≡ k) × (e.version ≡ v))
  pub told : (k v : ℕ) → w.told k v ≡ false
  pub dead : (h k v : ℕ) → w.dead h k v ≡ false
  pub doomed : (h k v : ℕ) → w.doomed h k v ≡ false
  pub leaving : (h k v : ℕ) → w.leaving h k v ≡ false
  pub blocks : (m p : ℕ) (b : Block) → (w.blocks m p ≡ Some b) ↔ ((e : Entry) × IsWinner x b.key e
      × (e.body ≡ Pointer p) × (owner w.place b.key ≡ m) × (x.holds m p ≡ Some b.bytes))
  pub posted : (h : ℕ) → w.posted h ≡ []
  pub took : (h : ℕ) → w.took h ≡ []

-- u is w after the rules on the keys of the members below n
abbrev pub AllTidied : ℕ → Group → Group → Type 0
AllTidied zero w u = u ≡ w
AllTidied (suc n) w u = (mid : Group) × AllTidied n w mid × Tidied mid n u

-- the group opens with this state
abbrev pub IsOpened : Group → Contents → Type 0
IsOpened u x = (w : Group) × IsFound w x × AllTidied (members w.place) w u

-- what the parts of an empty region say
abbrev pub nothing : Contents
nothing = record { entries = λ h e. false; holds = λ h p. None }
