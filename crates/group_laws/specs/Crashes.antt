-- What a crash may leave of a state, and that it recovers what it should.
use Rattle.std.specs.Prelude.{◌≡◌, ◌≢◌, ℕ, ◌<◌, ◌≤◌, Bool, true, false, List, length, Option, Some, None, ◌⊎◌}
use Rattle.log_entry.specs.declared.entry.Body.{Body}
use Rattle.log_entry.specs.declared.entry.Body.TheVariants.{Pointer, Embedded, Tombstone}
use Rattle.log_entry.specs.declared.entry.Entry.{Entry}
use Rattle.store_image.specs.Facts.{In}
use Rattle.group_laws.specs.declared.types.Pending.{Pending}
use Rattle.group_laws.specs.declared.types.Block.{Block}
use Rattle.group_laws.specs.Places.{members, owner, units, LiesIn, Apart}
use Rattle.group_laws.specs.State.{Group}
use Rattle.group_laws.specs.Steps.{bytes_of}
use Rattle.group_laws.specs.Invariant.{IsLogged, IsLive, IsAwaited}

-- What the parts of a group say after a crash: the entries of each member's log, and the bytes that a block of its part holds.
pub record Contents : Type 0 where
  pub entries : ℕ → Entry → Bool
  pub holds : ℕ → ℕ → Option (List ℕ)

-- A crash may leave these contents of h's part: all that is certain but what may vanish, nothing that isn't logged, a batch wholly or not at all, and the blocks.
pub record IsLicensed (w : Group) (x : Contents) (h : ℕ) : Type 0 where
  pub has : (e : Entry) → In e (w.kept h) → w.doomed h e.key e.version ≡ false
      → x.entries h e ≡ true
  pub only : (e : Entry) → x.entries h e ≡ true → IsLogged w h e
  pub whole : ((e : Entry) → In e (w.flying h) → x.entries h e ≡ true)
      ⊎ ((e : Entry) → In e (w.flying h) → x.entries h e ≡ true → In e (w.kept h))
  pub blocks : (p : ℕ) (b : Block) → w.blocks h p ≡ Some b → x.holds h p ≡ Some b.bytes

-- the key's entry of greatest version in all parts
pub record IsWinner (x : Contents) (k : ℕ) (e : Entry) : Type 0 where
  pub home : ℕ
  pub stands : x.entries home e ≡ true
  pub key : e.key ≡ k
  pub greatest : (d : ℕ) (f : Entry) → x.entries d f ≡ true → f.key ≡ k → f.version ≤ e.version

abbrev pub HasNone : Contents → ℕ → Type 0
HasNone x k = (d : ℕ) (f : Entry) → x.entries d f ≡ true → f.key ≡ k → ⊥

-- the cell that a body leaves, by the blocks of its owner's part
abbrev pub Leaves : (ℕ → Option (List ℕ)) → Body → Option (List ℕ) → Type 0
Leaves holds (Pointer p) c = (v : List ℕ) × (holds p ≡ Some v) × (c ≡ Some v)
Leaves holds (Embedded v) c = c ≡ Some v
Leaves holds Tombstone c = c ≡ None

-- recovery finds this cell for the key
abbrev pub Recovers : Group → Contents → ℕ → Option (List ℕ) → Type 0
Recovers w x k c = (HasNone x k × (c ≡ None))
    ⊎ ((e : Entry) × IsWinner x k e × Leaves (x.holds (owner w.place k)) e.body c)

-- the cell that the key's pending entry leaves, by the blocks of its owner's view
abbrev pub IsNext : Group → ℕ → Option (List ℕ) → Type 0
IsNext w k c = (p : Pending) × (w.pending k ≡ Some p)
    × Leaves (λ q. bytes_of (w.blocks (owner w.place k) q)) p.entry.body c

-- The contents break no rule of soundness, and recover each key's cell, or the one that its pending entry leaves.
pub record Safe (w : Group) (x : Contents) : Type 0 where
  -- each key is one of the group's
  pub group : (h : ℕ) (e : Entry) → x.entries h e ≡ true → owner w.place e.key < members w.place
  -- a name has one body and stands in one part
  pub one_body : (h i : ℕ) (e f : Entry) → x.entries h e ≡ true → x.entries i f ≡ true
      → e.key ≡ f.key → e.version ≡ f.version → (h ≡ i) × (e ≡ f)
  -- a winner's block holds a value, and lies in its owner's part
  pub block : (k p : ℕ) (e : Entry) → IsWinner x k e → e.body ≡ Pointer p → (v : List ℕ)
      × (x.holds (owner w.place k) p ≡ Some v)
      × LiesIn w.place (owner w.place k) p (units (length v))
  -- no two winners have one block
  pub own : (k l p : ℕ) (e f : Entry) → IsWinner x k e → IsWinner x l f → e.body ≡ Pointer p
      → f.body ≡ Pointer p → k ≡ l
  pub cells : (k : ℕ) (c : Option (List ℕ)) → Recovers w x k c → (c ≡ w.cell k) ⊎ IsNext w k c

-- No two blocks overlap, and the blocks are just those of live values and pending entries.
pub record Distinct (w : Group) : Type 0 where
  pub apart : (m n p q : ℕ) (b c : Block) → w.blocks m p ≡ Some b → w.blocks n q ≡ Some c
      → (m ≡ n → p ≢ q) → Apart p (units (length b.bytes)) q (units (length c.bytes))
  pub used : (m p : ℕ) (b : Block) → w.blocks m p ≡ Some b → IsLive w b.key p b.bytes ⊎ IsAwaited w b.key p
  pub live : (k p : ℕ) (v : List ℕ) → IsLive w k p v → w.blocks (owner w.place k) p
      ≡ Some (record { key = k; bytes = v })
  pub awaited : (k p : ℕ) → IsAwaited w k p → (v : List ℕ)
      × (w.blocks (owner w.place k) p ≡ Some (record { key = k; bytes = v }))
