-- A step of one member, on a group by its members' views: that member's view becomes another, and the group is what the step leaves.
use Rattle.std.proofs.Common.{◌≡◌, ℕ, Bool, true, false, cond, ◌&&◌, eqb, List, [], ◌∷◌, ◌++◌, Option, Some, None, refl, sym, ap, ◌∙◌, eq-eqb, eqb-true}
use Rattle.log_entry.specs.declared.entry.Entry.{Entry}
use Rattle.log_entry.specs.declared.entry.EntryName.{EntryName}
use Rattle.group_laws.specs.declared.types.Slot.{Slot}
use Rattle.group_laws.specs.declared.types.Slot.TheVariants.{Empty, Posted, Taken, Done, Failed}
use Rattle.group_laws.specs.declared.types.Seen.{Seen}
use Rattle.group_laws.specs.Places.{Place, owner}
use Rattle.group_laws.specs.Updates.{put2, change, has}
use Rattle.group_laws.specs.State.{Notices}
use Rattle.group_laws.specs.Steps.{with_block, points_at, only_own, posts, locks, finds, takes, unlocks, commits, marks, fails, gives_up, withdraws, dooms}
use Rattle.group_laws.specs.MemberViews.{View}
use Rattle.group_board.specs.Views.{left_in, after_post, after_lock, after_find, after_take, after_unlock, after_commit, after_mark, after_fail, after_finish, after_give_up, after_withdraw, after_doom}
use Rattle.atomic_board.specs.Deeds.{group_of}

commit_row : (b : Bool) (v : View) → cond b (after_commit v) v ≡ record v { kept = cond b (v.kept ++ v.flying) v.kept; flying = cond b [] v.flying; looked = cond b [] v.looked }
commit_row true v = refl
commit_row false v = refl

lock_row : (b : Bool) (v : View) → cond b (after_lock v) v ≡ record v { holds = cond b true v.holds; looked = cond b [] v.looked }
lock_row true v = refl
lock_row false v = refl

unlock_row : (b : Bool) (v : View) → cond b (after_unlock v) v ≡ record v { holds = cond b false v.holds; looked = cond b [] v.looked }
unlock_row true v = refl
unlock_row false v = refl

find_row : (x : Seen) (b : Bool) (v : View) → cond b (after_find x v) v ≡ record v { looked = cond b (v.looked ++ x ∷ []) v.looked }
find_row x true v = refl
find_row x false v = refl

take_row : (a s : ℕ) (e : Entry) (b : Bool) (v : View)
    → cond b (after_take a s e v) v ≡ record v { taken = λ n t. cond (b && (eqb n a && eqb t s)) (Some e) (v.taken n t); flying = cond b (v.flying ++ e ∷ []) v.flying; took = cond b (v.took ++ e ∷ []) v.took; looked = cond b [] v.looked }
take_row a s e true v = refl
take_row a s e false v = refl

mark_row : (a s : ℕ) (b : Bool) (v : View) → cond b (after_mark a s v) v ≡ record v { taken = λ n t. cond (b && (eqb n a && eqb t s)) None (v.taken n t); looked = cond b [] v.looked }
mark_row a s true v = refl
mark_row a s false v = refl

fail_row : (a s : ℕ) (b : Bool) (v : View)
    → cond b (after_fail a s v) v ≡ record v { taken = λ n t. cond (b && (eqb n a && eqb t s)) None (v.taken n t); broken = cond b true v.broken; looked = cond b [] v.looked }
fail_row a s true v = refl
fail_row a s false v = refl

post_row : (s : ℕ) (e : Entry) (value : List ℕ) (b : Bool) (v : View)
    → cond b (after_post s e value v) v ≡ record v {
      pending = λ k. cond (b && eqb k e.key) (Some (record { entry = e; slot = Some s })) (v.pending k);
      blocks = cond b (with_block e.key value e.body v.blocks) v.blocks;
      posted = cond b (v.posted ++ e ∷ []) v.posted;
      looked = cond b [] v.looked;
    }
post_row s e value true v = refl
post_row s e value false v = refl

withdraw_row : (e : Entry) (b : Bool) (v : View)
    → cond b (after_withdraw e v) v ≡ record v {
      pending = λ k. cond (b && eqb k e.key) None (v.pending k);
      blocks = cond b (λ p. cond (points_at e.body p) None (v.blocks p)) v.blocks;
      looked = cond b [] v.looked;
    }
withdraw_row e true v = refl
withdraw_row e false v = refl

give_up_row : (e : Entry) (b : Bool) (v : View)
    → cond b (after_give_up e v) v ≡ record v {
      broken = cond b true v.broken;
      pending = λ k. cond (b && eqb k e.key) (Some (record { entry = e; slot = None })) (v.pending k);
      looked = cond b [] v.looked;
    }
give_up_row e true v = refl
give_up_row e false v = refl

pub finish_row : (e : Entry) (home : ℕ) (b : Bool) (v : View)
    → cond b (after_finish e home v) v ≡ record v {
      last = λ k. cond (b && eqb k e.key) e.version (v.last k);
      cell = λ k. cond (b && eqb k e.key) (left_in v.blocks e.body) (v.cell k);
      present = λ k n. cond (b && (eqb k e.key && eqb n e.version)) (Some home) (v.present k n);
      pending = λ k. cond (b && eqb k e.key) None (v.pending k);
      blocks = cond b (only_own e.key e.body v.blocks) v.blocks;
      looked = cond b [] v.looked;
    }
finish_row e home true v = refl
finish_row e home false v = refl

doom_row : (ns : List EntryName) (b : Bool) (v : View) → cond b (after_doom ns v) v ≡ record v { doomed = λ k n. cond (b && has ns k n) true (v.doomed k n); looked = cond b [] v.looked }
doom_row ns true v = refl
doom_row ns false v = refl

-- the group once the view of m is f of what it was
abbrev pub moved : Place → Option ℕ → (ℕ → ℕ → Slot) → (ℕ → ℕ → Option Notices) → (ℕ → View) → ℕ → (View → View) → Rattle.group_laws.specs.State.Group
moved p holder slot mail view m f = group_of p holder slot mail (change view m f)

-- a write at a key of m
pub own_key : (p : Place) (m key : ℕ) → owner p key ≡ m → (k : ℕ) → eqb (owner p k) m && eqb k key ≡ eqb k key
own_key p m key o k = by_test (eqb k key) refl where
  ends : (b : Bool) → b ≡ true → b && true ≡ true
  ends true e = refl
  ends false e = absurd (cc e)

  none : (b : Bool) → b && false ≡ false
  none true = refl
  none false = refl

  by_test : (c : Bool) → eqb k key ≡ c → eqb (owner p k) m && eqb k key ≡ eqb k key
  by_test true e = ap (λ c. eqb (owner p k) m && c) e ∙ (ends (eqb (owner p k) m) (eq-eqb (owner p k) m (ap (owner p) (eqb-true k key e) ∙ o)) ∙ sym e)
  by_test false e = ap (λ c. eqb (owner p k) m && c) e ∙ (none (eqb (owner p k) m) ∙ sym e)

module _ (p : Place) (holder : Option ℕ) (slot : ℕ → ℕ → Slot) (mail : ℕ → ℕ → Option Notices) (view : ℕ → View) (m : ℕ) where
  pub commit_shows : moved p holder slot mail view m after_commit ≡ commits (group_of p holder slot mail view) m
  commit_shows i = group_of p holder slot mail (λ h. commit_row (eqb h m) (view h) i)

  pub lock_shows : moved p (Some m) slot mail view m after_lock ≡ locks (group_of p holder slot mail view) m
  lock_shows i = group_of p (Some m) slot mail (λ h. lock_row (eqb h m) (view h) i)

  pub unlock_shows : moved p None slot mail view m after_unlock ≡ unlocks (group_of p holder slot mail view) m
  unlock_shows i = group_of p None slot mail (λ h. unlock_row (eqb h m) (view h) i)

  pub find_shows : (x : Seen) → moved p holder slot mail view m (after_find x) ≡ finds (group_of p holder slot mail view) m x
  find_shows x i = group_of p holder slot mail (λ h. find_row x (eqb h m) (view h) i)

  pub take_shows : (a s : ℕ) (e : Entry) → moved p holder (put2 slot a s Taken) mail view m (after_take a s e) ≡ takes (group_of p holder slot mail view) m a s e
  take_shows a s e i = group_of p holder (put2 slot a s Taken) mail (λ h. take_row a s e (eqb h m) (view h) i)

  pub mark_shows : (a s : ℕ) (e : Entry) → moved p holder (put2 slot a s (Done e m)) mail view m (after_mark a s) ≡ marks (group_of p holder slot mail view) m a s e
  mark_shows a s e i = group_of p holder (put2 slot a s (Done e m)) mail (λ h. mark_row a s (eqb h m) (view h) i)

  pub fail_shows : (a s : ℕ) (e : Entry) → moved p holder (put2 slot a s (Failed e)) mail view m (after_fail a s) ≡ fails (group_of p holder slot mail view) m a s e
  fail_shows a s e i = group_of p holder (put2 slot a s (Failed e)) mail (λ h. fail_row a s (eqb h m) (view h) i)

  pub post_shows : (s : ℕ) (e : Entry) (value : List ℕ) → owner p e.key ≡ m → moved p holder (put2 slot m s (Posted e)) mail view m (after_post s e value) ≡ posts (group_of p holder slot mail view) m s e value
  post_shows s e value o = (λ i. group_of p holder (put2 slot m s (Posted e)) mail (λ h. post_row s e value (eqb h m) (view h) i))
      ∙ (λ i. record (posts (group_of p holder slot mail view) m s e value) { pending = λ k. cond (own_key p m e.key o k i) (Some (record { entry = e; slot = Some s })) ((view (owner p k)).pending k) })

  pub withdraw_shows : (s : ℕ) (e : Entry) → owner p e.key ≡ m → moved p holder (put2 slot m s Empty) mail view m (after_withdraw e) ≡ withdraws (group_of p holder slot mail view) m s e
  withdraw_shows s e o = (λ i. group_of p holder (put2 slot m s Empty) mail (λ h. withdraw_row e (eqb h m) (view h) i))
      ∙ (λ i. record (withdraws (group_of p holder slot mail view) m s e) { pending = λ k. cond (own_key p m e.key o k i) None ((view (owner p k)).pending k) })

  pub give_up_shows : (s : ℕ) (e : Entry) → owner p e.key ≡ m → moved p holder (put2 slot m s Empty) mail view m (after_give_up e) ≡ gives_up (group_of p holder slot mail view) m s e
  give_up_shows s e o = (λ i. group_of p holder (put2 slot m s Empty) mail (λ h. give_up_row e (eqb h m) (view h) i))
      ∙ (λ i. record (gives_up (group_of p holder slot mail view) m s e) { pending = λ k. cond (own_key p m e.key o k i) (Some (record { entry = e; slot = None })) ((view (owner p k)).pending k) })

  pub doom_shows : (ns : List EntryName) → moved p holder slot mail view m (after_doom ns) ≡ dooms (group_of p holder slot mail view) m ns
  doom_shows ns i = group_of p holder slot mail (λ h. doom_row ns (eqb h m) (view h) i)
