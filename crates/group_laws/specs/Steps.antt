-- What each kind of step asks of a state, and what it leaves. Member m makes the step.
use Rattle.std.specs.Prelude.{◌≡◌, ◌≢◌, ℕ, ◌+◌, ◌<◌, Bool, true, false, cond, ◌&&◌, not, eqb, List, [], ◌∷◌, ◌++◌, length, Option, Some, None}
use Rattle.log_entry.specs.declared.entry.Body.{Body}
use Rattle.log_entry.specs.declared.entry.Body.TheVariants.{Pointer, Embedded, Tombstone}
use Rattle.log_entry.specs.declared.entry.Entry.{Entry}
use Rattle.log_entry.specs.declared.entry.EntryName.{EntryName}
use Rattle.log_entry.specs.Spelling.{words_of, HasSpelling}
use Rattle.store_image.specs.Facts.{In}
use Rattle.group_laws.specs.declared.group_sizes.TheConstants.{SLOTS}
use Rattle.group_laws.specs.declared.types.Slot.TheVariants.{Empty, Posted, Taken, Done, Failed}
use Rattle.group_laws.specs.declared.types.Block.{Block}
use Rattle.group_laws.specs.declared.types.Seen.{Seen}
use Rattle.group_laws.specs.declared.types.Seen.TheVariants.{Slot as SeenSlot, Mail as SeenMail}
use Rattle.group_laws.specs.declared.types.SlotWord.TheVariants.{Posted as ShowsPosted, Done as ShowsDone, Failed as ShowsFailed}
use Rattle.group_laws.specs.Places.{members, owner, units, LiesIn, Apart, GetsBlock}
use Rattle.group_laws.specs.Updates.{put, put2, put3, change, has, without}
use Rattle.group_laws.specs.State.{Notices, Group}
use Rattle.group_laws.specs.Invariant.{IsDead}

abbrev pub IsMember : Group → ℕ → Type 0
IsMember w m = m < members w.place

-- slot s of member a is one of the group's
abbrev pub IsSlot : Group → ℕ → ℕ → Type 0
IsSlot w a s = IsMember w a × (s < SLOTS)

-- the blocks with the value's block, where the entry points to one
abbrev pub with_block : ℕ → List ℕ → Body → (ℕ → Option Block) → ℕ → Option Block
with_block k value (Pointer p) old = put old p (Some (record { key = k; bytes = value }))
with_block k value (Embedded v) old = old
with_block k value Tombstone old = old

-- the units of the value's block lie in m's part and are no other block's
abbrev pub IsClear : Group → ℕ → ℕ → List ℕ → Type 0
IsClear w m p value = LiesIn w.place m p (units (length value))
    × ((q : ℕ) (b : Block) → w.blocks m q ≡ Some b
    → Apart p (units (length value)) q (units (length b.bytes)))

-- Post: m offers an entry of one of its keys in an empty slot of its own. The value is what the entry's block holds, where it points to one.
pub record CanPost (w : Group) (m s : ℕ) (e : Entry) (value : List ℕ) : Type 0 where
  pub slot : IsSlot w m s
  pub empty : w.slot m s ≡ Empty
  pub spelled : HasSpelling e
  pub own : owner w.place e.key ≡ m
  pub idle : w.pending e.key ≡ None
  pub whole : w.broken m ≡ false
  pub next : e.version ≡ w.last e.key + 1
  pub live : e.body ≡ Tombstone → w.cell e.key ≢ None
  pub block : (p : ℕ) → e.body ≡ Pointer p → GetsBlock (length value) × IsClear w m p value

abbrev pub posts : Group → ℕ → ℕ → Entry → List ℕ → Group
posts w m s e value =
    record w {
      slot = put2 w.slot m s (Posted e);
      pending = put w.pending e.key (Some (record { entry = e; slot = Some s }));
      blocks = change w.blocks m (with_block e.key value e.body);
      posted = change w.posted m (λ es. es ++ e ∷ []);
      looked = put w.looked m [];
    }

-- Lock: m tries to become the leader. Where it finds a holder, it only learns who that is.
pub record CanLock (w : Group) (m : ℕ) : Type 0 where
  pub member : IsMember w m
  pub not_held : w.holds m ≡ false
  pub gave_back : (a s : ℕ) → w.taken m a s ≡ None

abbrev pub locks : Group → ℕ → Group
locks w m = record w { holder = Some m; holds = put w.holds m true; looked = put w.looked m [] }

-- m learns this
abbrev pub finds : Group → ℕ → Seen → Group
finds w m x = record w { looked = change w.looked m (λ xs. xs ++ x ∷ []) }

-- Take: the leader takes the change of a slot that it saw Posted.
pub record CanTake (w : Group) (m a s : ℕ) (e : Entry) : Type 0 where
  pub member : IsMember w m
  pub slot : IsSlot w a s
  pub holds : w.holds m ≡ true
  pub seen : In (SeenSlot a s (ShowsPosted (length (words_of e)))) (w.looked m)
  pub whole : w.broken m ≡ false
  pub entry : w.slot a s ≡ Posted e

abbrev pub takes : Group → ℕ → ℕ → ℕ → Entry → Group
takes w m a s e =
    record w {
      slot = put2 w.slot a s Taken;
      taken = put3 w.taken m a s (Some e);
      flying = change w.flying m (λ es. es ++ e ∷ []);
      took = change w.took m (λ es. es ++ e ∷ []);
      looked = put w.looked m [];
    }

-- Unlock: the leader gives the lock back.
pub record CanUnlock (w : Group) (m : ℕ) : Type 0 where
  pub member : IsMember w m
  pub holds : w.holds m ≡ true

abbrev pub unlocks : Group → ℕ → Group
unlocks w m = record w { holder = None; holds = put w.holds m false; looked = put w.looked m [] }

-- Commit: what m took is certain in its log from now on.
pub record CanCommit (w : Group) (m : ℕ) : Type 0 where
  pub member : IsMember w m
  pub whole : w.broken m ≡ false

abbrev pub commits : Group → ℕ → Group
commits w m =
    record w {
      kept = λ h. cond (eqb h m) (w.kept h ++ w.flying h) (w.kept h);
      flying = put w.flying m [];
      looked = put w.looked m [];
    }

-- Mark: m gives a change back that is certain in its log.
pub record CanMark (w : Group) (m a s : ℕ) (e : Entry) : Type 0 where
  pub member : IsMember w m
  pub slot : IsSlot w a s
  pub taken : w.taken m a s ≡ Some e
  pub kept : In e (w.kept m)

abbrev pub marks : Group → ℕ → ℕ → ℕ → Entry → Group
marks w m a s e =
    record w {
      slot = put2 w.slot a s (Done e m);
      taken = put3 w.taken m a s None;
      looked = put w.looked m [];
    }

-- Fail: m gives a change back that it couldn't write, and writes no more.
pub record CanFail (w : Group) (m a s : ℕ) (e : Entry) : Type 0 where
  pub member : IsMember w m
  pub slot : IsSlot w a s
  pub taken : w.taken m a s ≡ Some e
  pub flying : In e (w.flying m)

abbrev pub fails : Group → ℕ → ℕ → ℕ → Entry → Group
fails w m a s e =
    record w {
      slot = put2 w.slot a s (Failed e);
      taken = put3 w.taken m a s None;
      broken = put w.broken m true;
      looked = put w.looked m [];
    }

abbrev pub bytes_of : Option Block → Option (List ℕ)
bytes_of None = None
bytes_of (Some b) = Some b.bytes

-- the cell that an entry with this body leaves, by the blocks of m
abbrev pub left_by : Group → ℕ → Body → Option (List ℕ)
left_by w m (Pointer p) = bytes_of (w.blocks m p)
left_by w m (Embedded v) = Some v
left_by w m Tombstone = None

abbrev pub points_at : Body → ℕ → Bool
points_at (Pointer q) p = eqb p q
points_at (Embedded v) p = false
points_at Tombstone p = false

abbrev pub is_of : ℕ → Option Block → Bool
is_of k None = false
is_of k (Some b) = eqb b.key k

-- the blocks without those of the key, but with the one that the body points to
abbrev pub only_own : ℕ → Body → (ℕ → Option Block) → ℕ → Option Block
only_own k body old p = cond (is_of k (old p) && not (points_at body p)) None (old p)

-- Finish of a slot that is Done: the owner settles the change. The two rules on its keys follow.
pub record CanFinish (w : Group) (m s : ℕ) (e : Entry) (home : ℕ) : Type 0 where
  pub slot : IsSlot w m s
  pub own : owner w.place e.key ≡ m
  pub seen : In (SeenSlot m s (ShowsDone home)) (w.looked m)
  pub done : w.slot m s ≡ Done e home

abbrev pub finishes : Group → ℕ → ℕ → Entry → ℕ → Group
finishes w m s e home =
    record w {
      slot = put2 w.slot m s Empty;
      last = put w.last e.key e.version;
      cell = put w.cell e.key (left_by w m e.body);
      present = put2 w.present e.key e.version (Some home);
      pending = put w.pending e.key None;
      blocks = change w.blocks m (only_own e.key e.body);
      looked = put w.looked m [];
    }

-- Finish of a slot that is Failed: the change is in doubt, and its owner stops. The two rules follow here too.
pub record CanGiveUp (w : Group) (m s : ℕ) (e : Entry) : Type 0 where
  pub slot : IsSlot w m s
  pub own : owner w.place e.key ≡ m
  pub seen : In (SeenSlot m s ShowsFailed) (w.looked m)
  pub failed : w.slot m s ≡ Failed e

abbrev pub gives_up : Group → ℕ → ℕ → Entry → Group
gives_up w m s e =
    record w {
      slot = put2 w.slot m s Empty;
      broken = put w.broken m true;
      pending = put w.pending e.key (Some (record { entry = e; slot = None }));
      looked = put w.looked m [];
    }

-- Withdraw: a leader takes a posted change of its own back.
pub record CanWithdraw (w : Group) (m s : ℕ) (e : Entry) : Type 0 where
  pub slot : IsSlot w m s
  pub own : owner w.place e.key ≡ m
  pub holds : w.holds m ≡ true
  pub seen : In (SeenSlot m s (ShowsPosted (length (words_of e)))) (w.looked m)
  pub posted : w.slot m s ≡ Posted e

abbrev pub withdraws : Group → ℕ → ℕ → Entry → Group
withdraws w m s e =
    record w {
      slot = put2 w.slot m s Empty;
      pending = put w.pending e.key None;
      blocks = change w.blocks m (λ old p. cond (points_at e.body p) None (old p));
      looked = put w.looked m [];
    }

-- Doom: from now on these dead entries of m's log may vanish.
pub record CanDoom (w : Group) (m : ℕ) (ns : List EntryName) : Type 0 where
  pub member : IsMember w m
  pub dead : (k v : ℕ) → has ns k v ≡ true → w.dead m k v ≡ true

abbrev pub dooms : Group → ℕ → List EntryName → Group
dooms w m ns = record w {
  doomed = λ h k v. cond (eqb h m && has ns k v) true (w.doomed h k v);
  looked = put w.looked m [];
}

-- Retire: these doomed entries have vanished. The two rules follow.
pub record CanRetire (w : Group) (m : ℕ) (ns : List EntryName) : Type 0 where
  pub member : IsMember w m
  pub doomed : (k v : ℕ) → has ns k v ≡ true → w.doomed m k v ≡ true

abbrev pub retires : Group → ℕ → List EntryName → Group
retires w m ns =
    record w {
      kept = change w.kept m (without ns);
      dead = λ h k v. cond (eqb h m && has ns k v) false (w.dead h k v);
      doomed = λ h k v. cond (eqb h m && has ns k v) false (w.doomed h k v);
      present = λ k v. cond (eqb (owner w.place k) m && has ns k v) None (w.present k v);
      told = λ k v. cond (eqb (owner w.place k) m && has ns k v) false (w.told k v);
      leaving = λ h k v. cond (eqb h m && (not (eqb (owner w.place k) m) && has ns k v)) true
          (w.leaving h k v);
      looked = put w.looked m [];
    }

-- Send: m tells another member which entries in its log are dead, and which of its keys' entries are gone.
pub record CanSend (w : Group) (m to : ℕ) (n : Notices) : Type 0 where
  pub member : IsMember w m
  pub receiver : IsMember w to
  pub other : to ≢ m
  pub seen : In (SeenMail m to false) (w.looked m)
  pub dead : (k v : ℕ) → has n.dead k v ≡ true → (owner w.place k ≡ m) × IsDead w k v
      × (w.present k v ≡ Some to) × (w.told k v ≡ false)
  pub gone : (k v : ℕ) → has n.gone k v ≡ true → (w.leaving m k v ≡ true) × (owner w.place k ≡ to)

abbrev pub sends : Group → ℕ → ℕ → Notices → Group
sends w m to n =
    record w {
      told = λ k v. cond (has n.dead k v) true (w.told k v);
      leaving = λ h k v. cond (eqb h m && has n.gone k v) false (w.leaving h k v);
      mailed = put2 w.mailed m to n;
      mail = put2 w.mail m to (Some n);
      looked = put w.looked m [];
    }

-- Receive: m takes what another member told it. The two rules follow.
pub record CanReceive (w : Group) (m from : ℕ) (n : Notices) : Type 0 where
  pub member : IsMember w m
  pub sender : IsMember w from
  pub seen : In (SeenMail from m true) (w.looked m)
  pub full : w.mail from m ≡ Some n

abbrev pub receives : Group → ℕ → ℕ → Notices → Group
receives w m from n =
    record w {
      dead = λ h k v. cond (eqb h m && has n.dead k v) true (w.dead h k v);
      present = λ k v. cond (eqb (owner w.place k) m && has n.gone k v) None (w.present k v);
      told = λ k v. cond (eqb (owner w.place k) m && has n.gone k v) false (w.told k v);
      mail = put2 w.mail from m None;
      looked = put w.looked m [];
    }
