-- What holds of every state that a group reaches, part by part.
use Rattle.std.specs.Prelude.{◌≡◌, ◌≢◌, ℕ, ◌+◌, ◌<◌, ◌≤◌, true, false, List, length, Option, Some, None, ◌⊎◌, ◌↔◌}
use Rattle.log_entry.specs.declared.entry.Body.{Body}
use Rattle.log_entry.specs.declared.entry.Body.TheVariants.{Pointer, Embedded, Tombstone}
use Rattle.log_entry.specs.declared.entry.Entry.{Entry}
use Rattle.log_entry.specs.declared.entry.EntryName.{EntryName}
use Rattle.log_entry.specs.Spelling.{HasSpelling}
use Rattle.store_image.specs.Facts.{In}
use Rattle.group_laws.specs.declared.types.Slot.TheVariants.{Empty, Posted, Taken, Done, Failed}
use Rattle.group_laws.specs.declared.types.Pending.{Pending}
use Rattle.group_laws.specs.declared.types.Block.{Block}
use Rattle.group_laws.specs.declared.types.Seen.TheVariants.{Slot as SeenSlot, Mail as SeenMail}
use Rattle.group_laws.specs.declared.types.SlotWord.TheVariants.{Posted as ShowsPosted, Done as ShowsDone, Failed as ShowsFailed}
use Rattle.group_laws.specs.Places.{IsPlace, members, owner, units, LiesIn, Apart}
use Rattle.group_laws.specs.Updates.{times, sum_below}
use Rattle.group_laws.specs.State.{Notices, Group, word_shown}

-- The records of a key agree with each other. So the version of a posted entry is the key's next one, above every finished one, and recovery prefers it.
pub record Keys (w : Group) : Type 0 where
  pub under_key : (k : ℕ) (p : Pending) → w.pending k ≡ Some p → p.entry.key ≡ k
  pub next_version : (k : ℕ) (p : Pending) → w.pending k ≡ Some p → p.entry.version ≡ w.last k + 1
  pub spelled : (k : ℕ) (p : Pending) → w.pending k ≡ Some p → HasSpelling p.entry
  pub not_above : (k v h : ℕ) → w.present k v ≡ Some h → v ≤ w.last k
  pub no_cell : (k : ℕ) → w.last k ≡ 0 → w.cell k ≡ None
  pub no_names : (k v : ℕ) → w.last k ≡ 0 → w.present k v ≡ None
  pub told_present : (k v : ℕ) → w.told k v ≡ true → (h : ℕ) × (w.present k v ≡ Some h)

-- the entry is pending with this slot, or with none
abbrev pub PendsAt : Group → Entry → Option ℕ → Type 0
PendsAt w e at = w.pending e.key ≡ Some (record { entry = e; slot = at })

-- the key's change came back as failed, so a crash may find it or not
abbrev pub IsInDoubt : Group → ℕ → Entry → Type 0
IsInDoubt w k e = w.pending k ≡ Some (record { entry = e; slot = None })

-- some member whose log is broken has the entry among those that it couldn't write
abbrev pub IsLost : Group → Entry → Type 0
IsLost w e = (h : ℕ) × (w.broken h ≡ true) × In e (w.flying h)

-- Each change that is out has one place: a slot, or the hands of one leader. So no change is written twice, and none is forgotten between two cores.
pub record Slots (w : Group) : Type 0 where
  pub posted_named : (m s : ℕ) (e : Entry) → w.slot m s ≡ Posted e → PendsAt w e (Some s)
      × (owner w.place e.key ≡ m)
  pub done_named : (m s h : ℕ) (e : Entry) → w.slot m s ≡ Done e h → PendsAt w e (Some s)
      × (owner w.place e.key ≡ m)
  pub failed_named : (m s : ℕ) (e : Entry) → w.slot m s ≡ Failed e → PendsAt w e (Some s)
      × (owner w.place e.key ≡ m)
  pub taken_named : (h m s : ℕ) (e : Entry) → w.taken h m s ≡ Some e → PendsAt w e (Some s)
      × (owner w.place e.key ≡ m) × (w.slot m s ≡ Taken)
  pub taken_by : (m s : ℕ) → w.slot m s ≡ Taken → (h : ℕ) × (e : Entry) × (w.taken h m s ≡ Some e)
  pub taken_once : (h i m s : ℕ) (e f : Entry) → w.taken h m s ≡ Some e → w.taken i m s ≡ Some f
      → h ≡ i
  pub taken_member : (h m s : ℕ) (e : Entry) → w.taken h m s ≡ Some e → h < members w.place
  pub in_slot : (k s : ℕ) (e : Entry) → w.pending k ≡ Some (record { entry = e; slot = Some s })
      → w.slot (owner w.place k) s ≢ Empty
  pub once : (k l s : ℕ) (e f : Entry) → w.pending k ≡ Some (record { entry = e; slot = Some s })
      → w.pending l ≡ Some (record { entry = f; slot = Some s }) → owner w.place k ≡ owner w.place l
      → k ≡ l
  pub failed : (m s : ℕ) (e : Entry) → w.slot m s ≡ Failed e → IsLost w e
  pub in_doubt : (k : ℕ) (e : Entry) → IsInDoubt w k e → IsLost w e

-- What a member loaded of words that only it may change stays true until its own next step. So a condition on a load is a condition on the state.
pub record Looks (w : Group) : Type 0 where
  pub holds_is : (m : ℕ) → (w.holds m ≡ true) ↔ (w.holder ≡ Some m)
  pub holder_member : (h : ℕ) → w.holder ≡ Some h → h < members w.place
  pub posted_seen : (m a s n : ℕ) → w.holder ≡ Some m
      → In (SeenSlot a s (ShowsPosted n)) (w.looked m) → word_shown (w.slot a s) ≡ ShowsPosted n
  pub done_seen : (m s h : ℕ) → In (SeenSlot m s (ShowsDone h)) (w.looked m)
      → word_shown (w.slot m s) ≡ ShowsDone h
  pub failed_seen : (m s : ℕ) → In (SeenSlot m s ShowsFailed) (w.looked m)
      → word_shown (w.slot m s) ≡ ShowsFailed
  pub empty_seen : (m b : ℕ) → In (SeenMail m b false) (w.looked m) → w.mail m b ≡ None
  pub full_seen : (m a : ℕ) → In (SeenMail a m true) (w.looked m) → w.mail a m ≢ None

-- the entry is in the log of h, or may be after a crash
abbrev pub IsLogged : Group → ℕ → Entry → Type 0
IsLogged w h e = In e (w.kept h) ⊎ In e (w.flying h)

-- the entry is pending, and in the hands of h
abbrev pub IsHeld : Group → ℕ → Entry → Type 0
IsHeld w h e =
    (at : Option ℕ) × PendsAt w e at
    × (((m : ℕ) × (s : ℕ) × (w.taken h m s ≡ Some e))
    ⊎ (((m : ℕ) × (s : ℕ) × (w.slot m s ≡ Done e h))
    ⊎ ((w.broken h ≡ true) × In e (w.flying h))))

-- No log has an entry that its key's owner knows nothing of, and none has a name that another has. So recovery finds one body under each name, and nothing that was never posted.
pub record Logs (w : Group) : Type 0 where
  pub group : (h : ℕ) (e : Entry) → IsLogged w h e → (h < members w.place)
      × (owner w.place e.key < members w.place)
  pub known : (h : ℕ) (e : Entry) → IsLogged w h e → (w.present e.key e.version ≡ Some h)
      ⊎ IsHeld w h e
  pub one_log : (h i : ℕ) (e f : Entry) → IsLogged w h e → IsLogged w i f → e.key ≡ f.key
      → e.version ≡ f.version → (h ≡ i) × (e ≡ f)
  pub apart : (h : ℕ) (e : Entry) → In e (w.kept h) → In e (w.flying h) → ⊥
  pub not_posted : (h m s : ℕ) (e : Entry) → w.slot m s ≡ Posted e → IsLogged w h e → ⊥
  pub done_kept : (h m s : ℕ) (e : Entry) → w.slot m s ≡ Done e h → In e (w.kept h)
      × (w.doomed h e.key e.version ≡ false)

-- the name is certain in the log of h
abbrev pub IsKept : Group → ℕ → ℕ → ℕ → Type 0
IsKept w h k v = (e : Entry) × In e (w.kept h) × (e.key ≡ k) × (e.version ≡ v)

-- the name is on its way from h to its owner as gone
abbrev pub IsGone : Group → ℕ → ℕ → ℕ → Type 0
IsGone w h k v = (n : Notices) × (w.mail h (owner w.place k) ≡ Some n)
    × In (record { key = k; version = v }) n.gone

-- What an owner believes to stand in a log stands there, or the news that it vanished is on the way. So an owner never counts too few standing entries, and its versions begin again only where none is left.
pub record Standing (w : Group) : Type 0 where
  pub stands : (k v h : ℕ) → w.present k v ≡ Some h → IsKept w h k v
      ⊎ ((w.leaving h k v ≡ true) ⊎ IsGone w h k v)
  pub away : (h k v : ℕ) → (w.leaving h k v ≡ true) ⊎ IsGone w h k v → (w.present k v ≡ Some h)
      × (w.told k v ≡ true) × ((e : Entry) → IsLogged w h e → e.key ≡ k → e.version ≡ v → ⊥)
  pub gone_home : (a b : ℕ) (n : Notices) (x : EntryName) → w.mail a b ≡ Some n → In x n.gone
      → owner w.place x.key ≡ b
  pub leaving_other : (h k v : ℕ) → w.leaving h k v ≡ true → owner w.place k ≢ h
  pub not_both : (h k v : ℕ) → w.leaving h k v ≡ true → IsGone w h k v → ⊥
  pub full : (a b : ℕ) (n : Notices) → w.mail a b ≡ Some n → w.mailed a b ≡ n
  pub no_self : (m : ℕ) → w.mail m m ≡ None

-- the value that an entry with this body leaves
abbrev pub Gives : Group → Entry → List ℕ → Body → Type 0
Gives w e v (Embedded u) = u ≡ v
Gives w e v (Pointer p) = w.blocks (owner w.place e.key) p
    ≡ Some (record { key = e.key; bytes = v })
Gives w e v Tombstone = ⊥

-- the entry of the key's last version is certain in its home, and may not vanish there
abbrev pub IsLast : Group → ℕ → Entry → Type 0
IsLast w k e = (home : ℕ) × (w.present k (w.last k) ≡ Some home) × In e (w.kept home) × (e.key ≡ k)
    × (e.version ≡ w.last k) × (w.doomed home k (w.last k) ≡ false)

-- The last finished entry of a key leaves its cell. Of a deleted key the tombstone stands as long as an older entry does, so that recovery can't find the older one alone.
pub record Cells (w : Group) : Type 0 where
  pub value : (k : ℕ) (v : List ℕ) → w.cell k ≡ Some v → (e : Entry) × IsLast w k e
      × Gives w e v e.body
  pub tombs : (k h : ℕ) (e : Entry) → w.cell k ≡ None → IsLogged w h e → e.key ≡ k
      → e.version ≡ w.last k → e.body ≡ Tombstone
  pub grave : (k : ℕ) → w.cell k ≡ None → w.last k ≢ 0 → ((e : Entry) × IsLast w k e)
      ⊎ ((v h : ℕ) → w.present k v ≡ Some h → v ≡ w.last k)

-- The name is dead as its owner sees it: a later change is finished, or it is the tombstone of a deleted key and no other entry of the key stands.
abbrev pub IsDead : Group → ℕ → ℕ → Type 0
IsDead w k v = (v < w.last k)
    ⊎ ((v ≡ w.last k) × (w.cell k ≡ None) × ((u h : ℕ) → w.present k u ≡ Some h → u ≡ v))

-- What was told dead is dead and stays so, and only such a name may vanish. So cleaning takes nothing that recovery needs.
pub record Deaths (w : Group) : Type 0 where
  pub doomed_dead : (h k v : ℕ) → w.doomed h k v ≡ true → w.dead h k v ≡ true
  pub dead_kept : (h k v : ℕ) → w.dead h k v ≡ true → IsKept w h k v
  pub dead_is : (h k v : ℕ) → w.dead h k v ≡ true → (w.told k v ≡ true) × (w.present k v ≡ Some h)
      × IsDead w k v
  pub mail_is : (a h : ℕ) (n : Notices) (x : EntryName) → w.mail a h ≡ Some n → In x n.dead
      → (w.told x.key x.version ≡ true) × (w.present x.key x.version ≡ Some h)
      × IsDead w x.key x.version
  pub mail_from : (a h : ℕ) (n : Notices) (x : EntryName) → w.mail a h ≡ Some n → In x n.dead
      → (owner w.place x.key ≡ a) × (w.dead h x.key x.version ≡ false) × IsKept w h x.key x.version

-- the block has the live value of the key
abbrev pub IsLive : Group → ℕ → ℕ → List ℕ → Type 0
IsLive w k p v = (w.cell k ≡ Some v) × ((e : Entry) × IsLast w k e × (e.body ≡ Pointer p))

-- the block is that of the key's pending entry
abbrev pub IsAwaited : Group → ℕ → ℕ → Type 0
IsAwaited w k p = (q : Pending) × (w.pending k ≡ Some q) × (q.entry.body ≡ Pointer p)

-- Blocks that must hold a value lie in their owner's part and share no unit, and they are just those of live values and pending entries. So no block serves two values. A pending entry's block is another one than its key's live value has: taking the entry back puts its block back, and must not put back the live one.
pub record Blocks (w : Group) : Type 0 where
  pub lies : (m p : ℕ) (b : Block) → w.blocks m p ≡ Some b
      → LiesIn w.place m p (units (length b.bytes)) × (owner w.place b.key ≡ m)
      × (m < members w.place)
  pub distinct : (m n p q : ℕ) (b c : Block) → w.blocks m p ≡ Some b → w.blocks n q ≡ Some c
      → (m ≡ n → p ≢ q) → Apart p (units (length b.bytes)) q (units (length c.bytes))
  pub used : (m p : ℕ) (b : Block) → w.blocks m p ≡ Some b → IsLive w b.key p b.bytes ⊎ IsAwaited w b.key p
  pub awaited : (k p : ℕ) → IsAwaited w k p → (v : List ℕ)
      × (w.blocks (owner w.place k) p ≡ Some (record { key = k; bytes = v }))
  pub differ : (k p : ℕ) (v : List ℕ) → IsLive w k p v → IsAwaited w k p → ⊥

-- how often the entry was taken
abbrev pub times_taken : Group → Entry → ℕ
times_taken w e = sum_below (members w.place) (λ h. times e (w.took h))

-- Each post is taken at most once. So what logs grow by is bounded by what was posted. Of slots that are Posted with one entry there is one at most.
pub record Counts (w : Group) : Type 0 where
  pub taken : (e : Entry) → times_taken w e ≤ times e (w.posted (owner w.place e.key))
  pub waiting : (m s : ℕ) (e : Entry) → w.slot m s ≡ Posted e
      → times_taken w e + 1 ≤ times e (w.posted (owner w.place e.key))

pub record Lawful (w : Group) : Type 0 where
  pub place : IsPlace w.place
  pub keys : Keys w
  pub slots : Slots w
  pub looks : Looks w
  pub logs : Logs w
  pub standing : Standing w
  pub cells : Cells w
  pub deaths : Deaths w
  pub blocks : Blocks w
  pub counts : Counts w
