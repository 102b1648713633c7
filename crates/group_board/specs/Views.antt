-- What each step of a member makes of what it has.
use Rattle.std.specs.Prelude.{◌≡◌, ℕ, ◌<◌, Bool, true, false, cond, ◌&&◌, not, eqb, List, [], ◌∷◌, ◌++◌, Option, Some, None, ◌⊎◌, ◌↔◌}
use Rattle.log_entry.specs.declared.entry.Body.{Body}
use Rattle.log_entry.specs.declared.entry.Body.TheVariants.{Pointer, Embedded, Tombstone}
use Rattle.log_entry.specs.declared.entry.Entry.{Entry}
use Rattle.log_entry.specs.declared.entry.EntryName.{EntryName}
use Rattle.group_laws.specs.declared.types.Block.{Block}
use Rattle.group_laws.specs.declared.types.Seen.{Seen}
use Rattle.group_laws.specs.Places.{Place, owner}
use Rattle.group_laws.specs.Updates.{put, put2, has, without}
use Rattle.group_laws.specs.State.{Notices}
use Rattle.group_laws.specs.MemberViews.{View}
use Rattle.group_laws.specs.Steps.{with_block, bytes_of, points_at, only_own}

-- m posted an entry in an own slot; its block holds the value, where it points to one
abbrev pub after_post : ℕ → Entry → List ℕ → View → View
after_post s e value v =
    record v {
      pending = put v.pending e.key (Some (record { entry = e; slot = Some s }));
      blocks = with_block e.key value e.body v.blocks;
      posted = v.posted ++ e ∷ [];
      looked = [];
    }

-- m became the leader
abbrev pub after_lock : View → View
after_lock v = record v { holds = true; looked = [] }

-- m learned this
abbrev pub after_find : Seen → View → View
after_find x v = record v { looked = v.looked ++ x ∷ [] }

-- m took a change out of a slot of member a
abbrev pub after_take : ℕ → ℕ → Entry → View → View
after_take a s e v = record v {
  taken = put2 v.taken a s (Some e);
  flying = v.flying ++ e ∷ [];
  took = v.took ++ e ∷ [];
  looked = [];
}

abbrev pub after_unlock : View → View
after_unlock v = record v { holds = false; looked = [] }

-- what m took is certain
abbrev pub after_commit : View → View
after_commit v = record v { kept = v.kept ++ v.flying; flying = []; looked = [] }

-- m gave a change back that is certain in its log
abbrev pub after_mark : ℕ → ℕ → View → View
after_mark a s v = record v { taken = put2 v.taken a s None; looked = [] }

-- m gave a change back that it couldn't write
abbrev pub after_fail : ℕ → ℕ → View → View
after_fail a s v = record v { taken = put2 v.taken a s None; broken = true; looked = [] }

-- the cell that an entry with this body leaves, by these blocks
abbrev pub left_in : (ℕ → Option Block) → Body → Option (List ℕ)
left_in blocks (Pointer p) = bytes_of (blocks p)
left_in blocks (Embedded v) = Some v
left_in blocks Tombstone = None

-- m settled an own change that is certain in the log of its home; the two rules on its keys follow
abbrev pub after_finish : Entry → ℕ → View → View
after_finish e home v =
    record v {
      last = put v.last e.key e.version;
      cell = put v.cell e.key (left_in v.blocks e.body);
      present = put2 v.present e.key e.version (Some home);
      pending = put v.pending e.key None;
      blocks = only_own e.key e.body v.blocks;
      looked = [];
    }

-- m got an own change back that could not be written, so it is in doubt; the two rules follow
abbrev pub after_give_up : Entry → View → View
after_give_up e v = record v {
  broken = true;
  pending = put v.pending e.key
      (Some (record { entry = e; slot = None }));
  looked = [];
}

-- m took an own change back that nobody had taken
abbrev pub after_withdraw : Entry → View → View
after_withdraw e v = record v {
  pending = put v.pending e.key None;
  blocks = λ p. cond (points_at e.body p) None (v.blocks p);
  looked = [];
}

-- these names of m's log may vanish
abbrev pub after_doom : List EntryName → View → View
after_doom ns v = record v { doomed = λ k n. cond (has ns k n) true (v.doomed k n); looked = [] }

-- They have vanished: m forgets those of its own keys, and is to report the others. The two rules follow.
abbrev pub after_retire : Place → ℕ → List EntryName → View → View
after_retire p m ns v =
    record v {
      kept = without ns v.kept;
      dead = λ k n. cond (has ns k n) false (v.dead k n);
      doomed = λ k n. cond (has ns k n) false (v.doomed k n);
      present = λ k n. cond (eqb (owner p k) m && has ns k n) None (v.present k n);
      told = λ k n. cond (eqb (owner p k) m && has ns k n) false (v.told k n);
      leaving = λ k n. cond (not (eqb (owner p k) m) && has ns k n) true (v.leaving k n);
      looked = [];
    }

-- m told another member
abbrev pub after_send : ℕ → Notices → View → View
after_send to n v =
    record v {
      told = λ k i. cond (has n.dead k i) true (v.told k i);
      leaving = λ k i. cond (has n.gone k i) false (v.leaving k i);
      mailed = put v.mailed to n;
      looked = [];
    }

-- m was told by another member; the two rules follow
abbrev pub after_receive : Place → ℕ → Notices → View → View
after_receive p m n v =
    record v {
      dead = λ k i. cond (has n.dead k i) true (v.dead k i);
      present = λ k i. cond (eqb (owner p k) m && has n.gone k i) None (v.present k i);
      told = λ k i. cond (eqb (owner p k) m && has n.gone k i) false (v.told k i);
      looked = [];
    }

-- The name is dead: a later change is finished, or it is the tombstone of a deleted key and no other entry of the key stands.
abbrev pub IsDeadIn : View → ℕ → ℕ → Type 0
IsDeadIn v k n = (n < v.last k) ⊎ ((n ≡ v.last k) × (v.cell k ≡ None)
    × ((u h : ℕ) → v.present k u ≡ Some h → u ≡ n))

-- the key is deleted, nothing of it stands in a log, and no change of it is under way
abbrev pub IsSpentIn : Place → ℕ → View → ℕ → Type 0
IsSpentIn p m v k = (owner p k ≡ m) × (v.cell k ≡ None) × ((n : ℕ) → v.present k n ≡ None)
    × (v.pending k ≡ None)

-- a dead entry of an own key stands in the own log
abbrev pub TellsItselfIn : Place → ℕ → View → ℕ → ℕ → Type 0
TellsItselfIn p m v k n = (owner p k ≡ m) × (v.present k n ≡ Some m) × IsDeadIn v k n

-- what the two rules make of the last versions, the names told and the names dead
pub record IsTidyIn (p : Place) (m : ℕ) (v : View) (last : ℕ → ℕ)
    (told dead : ℕ → ℕ → Bool) : Type 0 where
  pub forgets : (k : ℕ) → IsSpentIn p m v k → last k ≡ 0
  pub keeps : (k : ℕ) → (IsSpentIn p m v k × (last k ≡ 0)) ⊎ (last k ≡ v.last k)
  pub tells : (k n : ℕ) → (told k n ≡ true) ↔ ((v.told k n ≡ true) ⊎ TellsItselfIn p m v k n)
  pub learns : (k n : ℕ) → (dead k n ≡ true) ↔ ((v.dead k n ≡ true) ⊎ TellsItselfIn p m v k n)

-- u is v after the two rules on the keys of m: a key of which nothing stands is forgotten, and a dead entry in the own log needs no mail
abbrev pub TidiedIn : Place → ℕ → View → View → Type 0
TidiedIn p m v u = (last : ℕ → ℕ) × (told : ℕ → ℕ → Bool) × (dead : ℕ → ℕ → Bool)
    × IsTidyIn p m v last told dead × (u ≡ record v { last = last; told = told; dead = dead })
