-- A region that says what it said before, but for its counts.
use Rattle.std.proofs.Common.{◌≡◌, ℕ, ◌≤◌, refl, sym, ◌∙◌, ap, subst, arith, true, false, Bool}
use Rattle.std.specs.Prelude.{IsTrue}
use Rattle.pm_region.specs.Cell.{MayBe}
use Rattle.pm_region.specs.State.{State, InRange, IsTold, IsTelling, MayLeave, Rose, cell_now}
use Rattle.pm_region.specs.Split.{Attached, Stays, IsRevalidated, IsOutOfPlace, words_in}
use Rattle.flatstore_commands.specs.Attaching.{Asks}

module _ (s t : State) (S : Stays s t) where
  pub told_still : (n : ℕ) → IsTold t n → IsTold s n
  told_still n told =
      let stamp = S.stamp in
      let since = S.since in
      let low = told.since in
      let seen = told.seen in
      record {
        says = subst IsTrue (S.told n) told.says;
        since = omega (arith, since, low);
        seen = omega (arith, stamp, seen);
        below = told.below;
      }

  pub tells_still : IsTelling t → IsTelling s
  tells_still now = subst (IsTold s) S.stamp (told_still t.stamp now)

  in_range : (w : ℕ) → InRange t.frame w → InRange s.frame w
  in_range w inside =
      let first = S.first in
      let words = S.words in
      let low = inside.low in
      let high = inside.high in
      record { low = omega (arith, first, low); high = omega (arith, first, words, high) }

  in_range_still : (w : ℕ) → InRange s.frame w → InRange t.frame w
  in_range_still w inside =
      let first = S.first in
      let words = S.words in
      let low = inside.low in
      let high = inside.high in
      record { low = omega (arith, first, low); high = omega (arith, first, words, high) }

  -- what a crash may leave of it is what it might have left before
  pub leaves_still : (n : ℕ) (image : ℕ → ℕ) → MayLeave t.frame (t.cells n) image → MayLeave s.frame (s.cells n) image
  leaves_still n image may w inside = subst (λ c. MayBe c (image w)) (S.cells n w) (may w (in_range_still w inside))

  pub cells_still : (w : ℕ) → cell_now t w ≡ cell_now s w
  cells_still w = S.cells t.stamp w ∙ ap (λ n. s.cells n w) S.stamp

  pub leaves_now : (image : ℕ → ℕ) → MayLeave t.frame (cell_now t) image → MayLeave s.frame (cell_now s) image
  leaves_now image may w inside = subst (λ c. MayBe c (image w)) (cells_still w) (may w (in_range_still w inside))

  pub attached_still : (old : State) (found : ℕ → ℕ) → Attached old s s.frame.bytes found → Attached old t t.frame.bytes found
  attached_still old found A = record {
    first = S.first ∙ A.first;
    words = S.words ∙ A.words ∙ ap words_in (sym S.bytes);
    bytes_are = refl;
    parted = S.parted ∙ A.parted;
    stamp = S.stamp ∙ A.stamp;
    since = S.since ∙ A.since;
    certainly = λ w inside now. cells_still w ∙ A.certainly w (in_range w inside) (tells_still now);
  }

-- What is asked behind a run changes counts alone.
same_stays : (s : State) → Stays s s
same_stays s = record { first = refl; words = refl; since = refl; bytes = refl; parted = refl; cuts = refl; stamp = refl; told = λ n. refl; cells = λ n w. refl }

found_stays : (s : State) (n : ℕ) → Stays s (record s { frame = record s.frame { validations = n } })
found_stays s n = record { first = refl; words = refl; since = refl; bytes = refl; parted = refl; cuts = refl; stamp = refl; told = λ m. refl; cells = λ m w. refl }

lost_stays : (s : State) (n : ℕ) → Stays s (record s { faults = n })
lost_stays s n = record { first = refl; words = refl; since = refl; bytes = refl; parted = refl; cuts = refl; stamp = refl; told = λ m. refl; cells = λ m w. refl }

pub asks_stays : (complete in_place : Bool) (s t : State) → Asks complete in_place s t → Stays s t
asks_stays true true s t is = subst (Stays s) (sym is) (found_stays s _)
asks_stays true false s t is = subst (Stays s) (sym is.else_same) (lost_stays s t.faults)
asks_stays false in_place s t is = subst (Stays s) (sym is) (same_stays s)

-- a count that rose before has risen since
pub asks_later : (complete in_place : Bool) (s t : State) → Asks complete in_place s t → (n : ℕ) → n ≤ s.faults → Rose n s.faults → Rose n t.faults
asks_later true true s t is n low rose = let same = ap (λ (z : State). z.faults) is in omega (arith, same, rose)
asks_later true false s t is n low rose = let more = is.faulted in omega (arith, low, more)
asks_later false in_place s t is n low rose = let same = ap (λ (z : State). z.faults) is in omega (arith, same, rose)

pub asks_none : (complete in_place : Bool) (s t : State) → Asks complete in_place s t → complete ≡ false → s ≡ t
asks_none true in_place s t is cut = cc (sym cut)
asks_none false in_place s t is cut = sym is

pub asks_rose : (complete in_place : Bool) (s t : State) → Asks complete in_place s t → complete ≡ true → in_place ≡ false → Rose s.faults t.faults
asks_rose true true s t is whole out = cc (sym out)
asks_rose true false s t is whole out = is.faulted
asks_rose false in_place s t is whole out = cc whole
