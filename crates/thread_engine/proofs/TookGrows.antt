-- What a core took only grows, and who is no member posts nothing.
use Rattle.std.proofs.Common.{⊎_elim, ◌≡◌, inl, inr, ℕ, ◌+◌, ◌≤◌, Bool, true, false, cond, List, [], ◌∷◌, ◌++◌, Option, Some, None, Result, Ok, Err, sym, ◌∙◌, ap, subst, arith}
use Rattle.std.specs.Prelude.{MatchOption}
use Rattle.std.proofs.lemmas.Bool.{ne_eqb}
use Rattle.std.proofs.lemmas.List.Sums.{sum_by-append}
use Rattle.fs_model.specs.declared.memory.Memory.{Memory}
use Rattle.pm_region.specs.State.{State}
use Rattle.log_entry.specs.declared.entry.Entry.{Entry}
use Rattle.group_laws.specs.Places.{Place, members}
use Rattle.group_laws.specs.State.{Group}
use Rattle.group_laws.specs.Runs.{Kind, IsStep, Runs}
use Rattle.group_laws.specs.Runs.Kind.{Split, Join, Post, Lock, Look, LookMail, Take, Unlock, Commit, Mark, Finish, Fail, Withdraw, Doom, Retire, Send, Receive}
use Rattle.group_laws.specs.MemberViews.{View}
use Rattle.group_laws.proofs.Clients.{step_place}
use Rattle.group_board.specs.Seats.{SeatAt}
use Rattle.group_board.specs.Views.{after_finish, after_give_up, after_unlock, TidiedIn}
use Rattle.engine_laws.specs.Spending.{lines_in}
use Rattle.core_worker.specs.declared.types.Turn.{Turn}
use Rattle.core_worker.specs.declared.types.Turn.TheVariants.{Moved, Idle}
use Rattle.core_worker.specs.declared.worker.Worker.{Worker}
use Rattle.core_worker.specs.Turning.{Did, TurnedTo, at_entry}
use Rattle.core_worker.specs.Turning.Did.{begins, goes_round, withdraws, writes, marks, fails, finishes, posts, loses_block, drops, receives, sends, winds, locks, dooms, copies, loses_copies, clears, loses_clearing}
use Rattle.core_worker.specs.Turns.{PersistsOrLoses}

module _ (s t : State) (refused : Bool) (before : Option Group) (seat : SeatAt) (v u : View) (w x : Worker) where
  -- where it took nothing
  same : (y : View) → u ≡ y → lines_in y.took ≡ lines_in v.took → lines_in v.took ≤ lines_in u.took
  same y e is = let at = ap (λ (z : View). lines_in z.took) e in omega (arith, at, is)

  taken_back : (mid : View) → lines_in mid.took ≡ lines_in v.took → (home : Option ℕ) (e : Entry)
      → MatchOption home (TidiedIn seat.place seat.number (after_give_up e mid) u) (λ h. TidiedIn seat.place seat.number (after_finish e h mid) u) → lines_in v.took ≤ lines_in u.took
  taken_back mid is None e T = let at = ap (λ (z : View). lines_in z.took) T.4 in omega (arith, at, is)
  taken_back mid is (Some h) e T = let at = ap (λ (z : View). lines_in z.took) T.4 in omega (arith, at, is)

  pub did_grows : Did s t refused before seat (at_entry w v) (at_entry x u) → lines_in v.took ≤ lines_in u.took
  did_grows (goes_round quiet (inl C)) =
      let at = ap (λ (z : View). lines_in z.took) C.went.0.view in
      let more : lines_in (v.took ++ C.went.0.change.change.entry ∷ []) ≡ lines_in v.took + lines_in (C.went.0.change.change.entry ∷ []) = sum_by-append _ v.took (C.went.0.change.change.entry ∷ []) in
      omega (arith, at, more)
  did_grows (goes_round quiet (inr R)) = same (after_unlock R.mid) R.view (ap (λ (z : View). lines_in z.took) R.went.0.view.1)
  did_grows (withdraws quiet after all (inl W)) = let at = ap (λ (z : View). lines_in z.took) W.retracts.back.view in omega (arith, at)
  did_grows (withdraws quiet after all (inr U)) = same (after_unlock U.1.mid) U.1.view (ap (λ (z : View). lines_in z.took) U.1.found.view.1)
  did_grows (writes P) = by x.stopped P where
    by : (b : Bool) → PersistsOrLoses b seat.number (at_entry w v) (at_entry x u) → lines_in v.took ≤ lines_in u.took
    by false P = let at = ap (λ (z : View). lines_in z.took) P.view in omega (arith, at)
    by true P = let at = ap (λ (z : View). lines_in z.took) P.view in omega (arith, at)
  did_grows (marks quiet M) = let at = ap (λ (z : View). lines_in z.took) M.view in omega (arith, at)
  did_grows (fails quiet F) = let at = ap (λ (z : View). lines_in z.took) F.view in omega (arith, at)
  did_grows (finishes quiet all F) = taken_back F.mid (ap (λ (z : View). lines_in z.took) F.before.looked.view) F.finishes.takes.home F.finishes.takes.entry F.finishes.takes.view
  did_grows (posts P plain calm) = let at = ap (λ (z : View). lines_in z.took) P.view in let was = ap (λ (z : View). lines_in z.took) P.before.looked.view in omega (arith, at, was)
  did_grows (loses_block L) = same L.mid L.view (ap (λ (z : View). lines_in z.took) L.before.looked.view)
  did_grows (drops quiet all D) = same D.mid D.view (ap (λ (z : View). lines_in z.took) D.before.looked.view)
  did_grows (receives quiet R) = let at = ap (λ (z : View). lines_in z.took) R.hears.view.4 in let was = ap (λ (z : View). lines_in z.took) R.before.looked.view in omega (arith, at, was)
  did_grows (sends quiet S) = let at = ap (λ (z : View). lines_in z.took) S.view in let was = ap (λ (z : View). lines_in z.took) S.before.looked.view in omega (arith, at, was)
  did_grows (winds quiet W) = same W.mid W.view (ap (λ (z : View). lines_in z.took) W.before.looked.view)
  did_grows (dooms quiet D) = let at = ap (λ (z : View). lines_in z.took) D.dooms.view in let was = ap (λ (z : View). lines_in z.took) D.before.looked.view in omega (arith, at, was)
  did_grows (copies C) = let at = ⊎_elim (λ K. ap (λ (z : View). lines_in z.took) K.1) (λ rest. ⊎_elim (λ L. ap (λ (z : View). lines_in z.took) L.1) (λ M. ap (λ (z : View). lines_in z.took) M.1) rest) C.copies in let was = ap (λ (z : View). lines_in z.took) C.before.looked.view in omega (arith, at, was)
  did_grows (loses_copies L) = same L.mid L.view (ap (λ (z : View). lines_in z.took) L.before.looked.view)
  did_grows (clears C) = let at = ap (λ (z : View). lines_in z.took) C.ends.tidied.4 in let was = ap (λ (z : View). lines_in z.took) C.before.looked.view in omega (arith, at, was)
  did_grows (loses_clearing L) = same L.mid L.view (ap (λ (z : View). lines_in z.took) L.before.looked.view)
  did_grows (begins quiet B) = let at = ap (λ (z : View). lines_in z.took) B.view in let was = ap (λ (z : View). lines_in z.took) B.before.looked.view in omega (arith, at, was)
  did_grows (locks quiet L) = let at = ap (λ (z : View). lines_in z.took) L.view in let was = ap (λ (z : View). lines_in z.took) L.before.looked.view in omega (arith, at, was)

  pub turn_grows : (r : Result Turn Memory) → TurnedTo r s t refused before seat (at_entry w v) (at_entry x u) → lines_in v.took ≤ lines_in u.took
  turn_grows (Ok Moved) T = did_grows T
  turn_grows (Err e) T = did_grows T
  turn_grows (Ok Idle) T = elim T.1.lock [
    | inl none ↦ same T.1.mid none.1 (ap (λ (z : View). lines_in z.took) T.1.before.looked.view)
    | inr found ↦ (let at = ap (λ (z : View). lines_in z.took) found.1.2 in let was = ap (λ (z : View). lines_in z.took) T.1.before.looked.view in omega (arith, at, was))
  ]

-- who is no member posts nothing
step_posted : (w : Group) (a : ℕ) (kind : Kind) (u : Group) (m : ℕ) → members w.place ≤ m → IsStep w a kind u → u.posted m ≡ w.posted m
step_posted w a Split u m high s = ap (λ (g : Group). g.posted m) s.1
step_posted w a Join u m high s = ap (λ (g : Group). g.posted m) s.1
step_posted w a (Post x e v) u m high s = ap (λ (g : Group). g.posted m) s.1 ∙ ap (λ b. cond b (w.posted m ++ e ∷ []) (w.posted m)) (ne_eqb m a (λ at. (let low = s.0.slot.0 in absurd (omega (arith, low, high, at)))))
step_posted w a Lock u m high s = elim s.1 [ inl f ↦ ap (λ (g : Group). g.posted m) f.1 | inr h ↦ ap (λ (g : Group). g.posted m) h.2 ]
step_posted w a (Look b x) u m high s = ap (λ (g : Group). g.posted m) s.2
step_posted w a (LookMail b d) u m high s = ap (λ (g : Group). g.posted m) s.3
step_posted w a (Take b x) u m high s = ap (λ (g : Group). g.posted m) s.2
step_posted w a Unlock u m high s = ap (λ (g : Group). g.posted m) s.1
step_posted w a Commit u m high s = ap (λ (g : Group). g.posted m) s.1
step_posted w a (Mark b x) u m high s = ap (λ (g : Group). g.posted m) s.2
step_posted w a (Finish x) u m high (inl s) = ap (λ (g : Group). g.posted m) s.3.4
step_posted w a (Finish x) u m high (inr s) = ap (λ (g : Group). g.posted m) s.2.4
step_posted w a (Fail b x) u m high s = ap (λ (g : Group). g.posted m) s.2
step_posted w a (Withdraw x) u m high s = ap (λ (g : Group). g.posted m) s.2
step_posted w a (Doom ns) u m high s = ap (λ (g : Group). g.posted m) s.1
step_posted w a (Retire ns) u m high s = ap (λ (g : Group). g.posted m) s.1.4
step_posted w a (Send to x) u m high s = ap (λ (g : Group). g.posted m) s.1
step_posted w a (Receive from) u m high s = ap (λ (g : Group). g.posted m) s.2.4

pub run_posted : (w : Group) (steps : List (ℕ × Kind)) (u : Group) (m : ℕ) → members w.place ≤ m → Runs w steps u → u.posted m ≡ w.posted m
run_posted w [] u m high r = ap (λ (g : Group). g.posted m) r
run_posted w (x ∷ xs) u m high r = run_posted r.0 xs u m (subst (λ (p : Place). members p ≤ m) (sym (step_place w x.0 x.1 r.0 r.1)) high) r.2 ∙ step_posted w x.0 x.1 r.0 m high r.1
