-- A change in doubt keeps its block, whatever a turn does.
use Rattle.std.proofs.Common.{⊎_elim, ◌≡◌, ◌≢◌, inl, inr, ℕ, ◌<◌, Bool, true, false, cond, not, ◌&&◌, List, Option, Some, None, Result, Ok, Err, refl, sym, ◌∙◌, ap, subst}
use Rattle.std.proofs.lemmas.Bool.{eqb-true, eq-eqb}
use Rattle.std.specs.Prelude.{eqb, MatchOption}
use Rattle.fs_model.specs.declared.memory.Memory.{Memory}
use Rattle.pm_region.specs.State.{State}
use Rattle.log_entry.specs.declared.entry.Body.{Body}
use Rattle.log_entry.specs.declared.entry.Body.TheVariants as bodies
use Rattle.log_entry.specs.declared.entry.Entry.{Entry}
use Rattle.group_laws.specs.declared.types.Block.{Block}
use Rattle.group_laws.specs.declared.types.Pending.{Pending}
use Rattle.group_laws.specs.Places.{Place}
use Rattle.group_laws.specs.Updates.{put}
use Rattle.group_laws.specs.State.{Group}
use Rattle.group_laws.specs.Steps.{only_own, is_of, points_at}
use Rattle.group_laws.specs.MemberViews.{View}
use Rattle.group_board.specs.Seats.{SeatAt}
use Rattle.group_board.specs.Views.{after_finish, after_give_up, TidiedIn}
use Rattle.core_worker.specs.declared.types.Turn.{Turn}
use Rattle.core_worker.specs.declared.types.Turn.TheVariants.{Moved, Idle}
use Rattle.core_worker.specs.declared.types.Place.TheVariants.{Posted}
use Rattle.core_worker.specs.declared.worker.Worker.{Worker}
use Rattle.core_worker.specs.OwnPlaces.{place_at}
use Rattle.core_worker.specs.KeyTies.{IsPlaced, Offers}
use Rattle.core_worker.specs.Ties.{Holds}
use Rattle.core_worker.specs.Turning.{Did, TurnedTo, at_entry}
use Rattle.core_worker.specs.Turning.Did.{begins, goes_round, withdraws, writes, marks, fails, finishes, posts, loses_block, drops, receives, sends, winds, locks, dooms, copies, loses_copies, clears, loses_clearing}
use Rattle.core_worker.specs.Turns.{PersistsOrLoses}
use Rattle.thread_engine.specs.WorkLaws.{in_doubt}

-- what equal options say
pub one_of : {X : Type 0} (x y : X) → Some x ≡ Some y → x ≡ y
one_of x y e = cc e

pub none_some : {X : Type 0} (x : X) → Some x ≡ None → ⊥
none_some x e = absurd (cc e)

pub clash : (b : Bool) → b ≡ true → b ≡ false → ⊥
clash b yes_ no_ = absurd (let both : true ≡ false = sym yes_ ∙ no_ in cc both)

pub entry_is : (x y : Pending) → Some x ≡ Some y → x.entry ≡ y.entry
entry_is x y e = ap (λ (z : Pending). z.entry) (one_of x y e)

pub slot_is : (x y : Pending) → Some x ≡ Some y → x.slot ≡ y.slot
slot_is x y e = ap (λ (z : Pending). z.slot) (one_of x y e)

key_is : (x y : Block) → Some x ≡ Some y → x.key ≡ y.key
key_is x y e = ap (λ (z : Block). z.key) (one_of x y e)

module _ (p : Place) (m : ℕ) (v : View) (w : Worker) (H : Holds p m v w) where
  -- a change in a slot stands in a place, and so has its block
  pub posted_offers : (k : ℕ) (e : Entry) (s : ℕ) → v.pending k ≡ Some (record { entry = e; slot = Some s }) → Offers v k e.body × (e.key ≡ k)
  posted_offers k e s is = elim (H.pending k (record { entry = e; slot = Some s }) is) [
    | inl at ↦ here at.0 at.1 at.2 at.3 at.4
    | inr doubt ↦ absurd (none_some s doubt.0)
  ] where
    here : (t number lines : ℕ) → t < 8 → place_at w.places.items t ≡ Posted number k lines → Offers v k e.body × (e.key ≡ k)
    here t number lines low at =
        let P = subst (IsPlaced p m v t) at (H.placed t low) in
        let same : P.0 ≡ e = entry_is (record { entry = P.0; slot = Some t }) (record { entry = e; slot = Some s }) (sym P.1 ∙ is) in
        (subst (λ (x : Entry). Offers v k x.body) same P.4, sym (ap (λ (x : Entry). x.key) same) ∙ P.2)

  -- who has a change in doubt has stopped
  pub doubt_stops : (k : ℕ) (d : Entry) → v.pending k ≡ Some (in_doubt d) → w.stopped ≡ true
  doubt_stops k d is = elim (H.pending k (in_doubt d) is) [
    | inl at ↦ here at.0 at.1 at.2 at.3 at.4
    | inr doubt ↦ doubt.2
  ] where
    here : (t number lines : ℕ) → t < 8 → place_at w.places.items t ≡ Posted number k lines → w.stopped ≡ true
    here t number lines low at =
        let P = subst (IsPlaced p m v t) at (H.placed t low) in
        absurd (none_some t (slot_is (record { entry = P.0; slot = Some t }) (in_doubt d) (sym P.1 ∙ is)))

-- two numbers that are not the same
pub neq : (a b : ℕ) → a ≢ b → eqb a b ≡ false
neq a b ne = by (eqb a b) refl where
  by : (c : Bool) → eqb a b ≡ c → eqb a b ≡ false
  by false e = e
  by true e = absurd (ne (eqb-true a b e))

-- a key whose change is taken out has nothing pending
out_key : (pending : ℕ → Option Pending) (j k : ℕ) (x : Option Pending) (d : Entry) → put pending j x k ≡ Some (in_doubt d) → x ≢ Some (in_doubt d) → k ≢ j
out_key pending j k x d is ne same = ne (sym (put_same pending j k x same) ∙ is) where
  put_same : (f : ℕ → Option Pending) (j k : ℕ) (x : Option Pending) → k ≡ j → put f j x k ≡ x
  put_same f j k x e = ap (λ b. cond b x (f k)) (eq-eqb k j e)

-- the block of one key stays where another key's change is finished or taken out
own_stays : (blocks : ℕ → Option Block) (j k q : ℕ) (body : Body) (bytes : List ℕ) → blocks q ≡ Some (record { key = k; bytes = bytes }) → k ≢ j → only_own j body blocks q ≡ blocks q
own_stays blocks j k q body bytes at ne = ap (λ b. cond (b && not (points_at body q)) None (blocks q)) (ap (is_of j) at ∙ neq k j ne)

withdrawn_stays : (blocks : ℕ → Option Block) (j k q : ℕ) (body : Body) (bytes : List ℕ) (v : View) → v.blocks ≡ blocks → Offers v j body → blocks q ≡ Some (record { key = k; bytes = bytes }) → k ≢ j → cond (points_at body q) None (blocks q) ≡ blocks q
withdrawn_stays blocks j k q (bodies.Embedded u) bytes v same offers at ne = refl
withdrawn_stays blocks j k q bodies.Tombstone bytes v same offers at ne = refl
withdrawn_stays blocks j k q (bodies.Pointer r) bytes v same offers at ne = by (eqb q r) refl where
  by : (b : Bool) → eqb q r ≡ b → cond (eqb q r) None (blocks q) ≡ blocks q
  by false e = ap (λ b. cond b None (blocks q)) e
  by true e =
      let there : q ≡ r = eqb-true q r e in
      let one : blocks q ≡ Some (record { key = j; bytes = offers.0 }) = ap (λ f. f q) (sym same) ∙ ap v.blocks there ∙ offers.1 in
      absurd (ne (key_is (record { key = k; bytes = bytes }) (record { key = j; bytes = offers.0 }) (sym at ∙ one)))

module _ (p : Place) (m : ℕ) (s t : State) (refused : Bool) (before : Option Group) (seat : SeatAt) (place : seat.place ≡ p) (number : seat.number ≡ m) (v u : View) (w x : Worker) (H : Holds p m v w) (k q : ℕ) (d : Entry) (bytes : List ℕ) (is : u.pending k ≡ Some (in_doubt d)) (at : v.blocks q ≡ Some (record { key = k; bytes = bytes })) where
  -- where only what it looked at, what it leads or what it has in its own log differs
  same_blocks : (y : View) → u ≡ y → y.blocks q ≡ v.blocks q → u.blocks q ≡ v.blocks q
  same_blocks y e b = ap (λ (z : View). z.blocks q) e ∙ b

  taken_back : (slot : ℕ) (mid : View) (freed : Worker) → mid.blocks ≡ v.blocks → (home : Option ℕ) (e : Entry)
      → MatchOption home (TidiedIn seat.place seat.number (after_give_up e mid) u) (λ h. TidiedIn seat.place seat.number (after_finish e h mid) u) → u.blocks q ≡ v.blocks q
  taken_back slot mid freed same None e T = ap (λ (z : View). z.blocks q) T.4 ∙ ap (λ f. f q) same
  taken_back slot mid freed same (Some h) e T =
      let other : k ≢ e.key = out_key mid.pending e.key k None d (sym (ap (λ (z : View). z.pending k) T.4) ∙ is) (λ e. none_some (in_doubt d) (sym e)) in
      ap (λ (z : View). z.blocks q) T.4 ∙ own_stays mid.blocks e.key k q e.body bytes (ap (λ f. f q) same ∙ at) other ∙ ap (λ f. f q) same

  pub did_keeps : Did s t refused before seat (at_entry w v) (at_entry x u) → u.blocks q ≡ v.blocks q
  did_keeps (goes_round quiet (inl C)) = ap (λ (z : View). z.blocks q) C.went.0.view
  did_keeps (goes_round quiet (inr R)) = ap (λ (z : View). z.blocks q) R.view ∙ ap (λ (z : View). z.blocks q) R.went.0.view.1
  did_keeps (withdraws quiet after all (inl W)) =
      let back = W.retracts.back in
      let e = W.change.entry in
      let other : k ≢ e.key = out_key v.pending e.key k None d (sym (ap (λ (z : View). z.pending k) back.view) ∙ is) (λ e. none_some (in_doubt d) (sym e)) in
      ap (λ (z : View). z.blocks q) back.view ∙ withdrawn_stays v.blocks e.key k q e.body bytes v refl (posted_offers p m v w H e.key e back.slot back.pending).0 at other
  did_keeps (withdraws quiet after all (inr U)) = ap (λ (z : View). z.blocks q) U.1.view ∙ ap (λ (z : View). z.blocks q) U.1.found.view.1
  did_keeps (writes P) = by x.stopped P where
    by : (b : Bool) → PersistsOrLoses b seat.number (at_entry w v) (at_entry x u) → u.blocks q ≡ v.blocks q
    by false P = ap (λ (z : View). z.blocks q) P.view
    by true P = ap (λ (z : View). z.blocks q) P.view
  did_keeps (marks quiet M) = ap (λ (z : View). z.blocks q) M.view
  did_keeps (fails quiet F) = ap (λ (z : View). z.blocks q) F.view
  did_keeps (finishes quiet all F) = taken_back F.slot F.mid F.finishes.freed (ap (λ (z : View). z.blocks) F.before.looked.view) F.finishes.takes.home F.finishes.takes.entry F.finishes.takes.view
  did_keeps (posts P plain calm) =
      let mid = P.before.looked.view in
      let other : k ≢ P.entry.key = out_key P.mid.pending P.entry.key k (Some (record { entry = P.entry; slot = Some P.slot })) d (sym (ap (λ (z : View). z.pending k) P.view) ∙ is) (λ e. none_some P.slot (slot_is (record { entry = P.entry; slot = Some P.slot }) (in_doubt d) e)) in
      absurd (clash w.stopped (doubt_stops p m v w H k d (sym (ap (λ (z : View). z.pending k) mid) ∙ sym (put_else P.mid.pending P.entry.key k (Some (record { entry = P.entry; slot = Some P.slot })) other) ∙ sym (ap (λ (z : View). z.pending k) P.view) ∙ is)) P.runs.0)
    where
      put_else : (f : ℕ → Option Pending) (j i : ℕ) (y : Option Pending) → i ≢ j → put f j y i ≡ f i
      put_else f j i y ne = ap (λ b. cond b y (f i)) (neq i j ne)
  did_keeps (loses_block L) = ap (λ (z : View). z.blocks q) L.view ∙ ap (λ (z : View). z.blocks q) L.before.looked.view
  did_keeps (drops quiet all D) = ap (λ (z : View). z.blocks q) D.view ∙ ap (λ (z : View). z.blocks q) D.before.looked.view
  did_keeps (receives quiet R) = ap (λ (z : View). z.blocks q) R.hears.view.4 ∙ ap (λ (z : View). z.blocks q) R.before.looked.view
  did_keeps (sends quiet S) = ap (λ (z : View). z.blocks q) S.view ∙ ap (λ (z : View). z.blocks q) S.before.looked.view
  did_keeps (winds quiet W) = ap (λ (z : View). z.blocks q) W.view ∙ ap (λ (z : View). z.blocks q) W.before.looked.view
  did_keeps (dooms quiet D) = ap (λ (z : View). z.blocks q) D.dooms.view ∙ ap (λ (z : View). z.blocks q) D.before.looked.view
  did_keeps (copies C) = ⊎_elim (λ K. ap (λ (z : View). z.blocks q) K.1) (λ rest. ⊎_elim (λ L. ap (λ (z : View). z.blocks q) L.1) (λ M. ap (λ (z : View). z.blocks q) M.1) rest) C.copies ∙ ap (λ (z : View). z.blocks q) C.before.looked.view
  did_keeps (loses_copies L) = ap (λ (z : View). z.blocks q) L.view ∙ ap (λ (z : View). z.blocks q) L.before.looked.view
  did_keeps (clears C) = ap (λ (z : View). z.blocks q) C.ends.tidied.4 ∙ ap (λ (z : View). z.blocks q) C.before.looked.view
  did_keeps (loses_clearing L) = ap (λ (z : View). z.blocks q) L.view ∙ ap (λ (z : View). z.blocks q) L.before.looked.view
  did_keeps (begins quiet B) = ap (λ (z : View). z.blocks q) B.view ∙ ap (λ (z : View). z.blocks q) B.before.looked.view
  did_keeps (locks quiet L) = ap (λ (z : View). z.blocks q) L.view ∙ ap (λ (z : View). z.blocks q) L.before.looked.view

  pub turn_keeps : (r : Result Turn Memory) → TurnedTo r s t refused before seat (at_entry w v) (at_entry x u) → u.blocks q ≡ v.blocks q
  turn_keeps (Ok Moved) T = did_keeps T
  turn_keeps (Err e) T = did_keeps T
  turn_keeps (Ok Idle) T = elim T.1.lock [
    | inl none ↦ ap (λ (z : View). z.blocks q) none.1 ∙ ap (λ (z : View). z.blocks q) T.1.before.looked.view
    | inr found ↦ ap (λ (z : View). z.blocks q) found.1.2 ∙ ap (λ (z : View). z.blocks q) T.1.before.looked.view
  ]
