-- What callers of a log start from.
use Rattle.std.proofs.Common.{◌≡◌, ◌⊎◌, inl, ℕ, ◌≤◌, ◌<◌, true, List, [], ◌∷◌, is_some, arith}
use Rattle.pm_region.specs.Cell.{Cell}
use Rattle.pm_region.specs.State.{State, cell_now}
use Rattle.pm_region.specs.Words.{KeepsOutside, MayLeaveIn, lasts}
use Rattle.pm_region.proofs.Clients.{patch, patch_in, patch_out, was_image}
use Rattle.log_entry.specs.declared.entry.Entry.{Entry}
use Rattle.core_log.specs.Log.{LogState, StandsIn, tail_of, tail_in}
use Rattle.core_log.specs.Walking.{LiesIn, IsBetween, IsReadable, entries_in}
use Rattle.core_log.proofs.RetireLaws.{is_tail}

-- An image of a moment, and one of the entry of the call: outside a range they agree, and in it the latter has the last values.
pub record AtEntry (s : State) (from end lo hi : ℕ) (image : ℕ → ℕ) : Type 0 where
  pub before : ℕ → ℕ
  pub may : MayLeaveIn (cell_now s) lo hi before
  pub outside : (w : ℕ) → (w < from) ⊎ (end ≤ w) → before w ≡ image w
  pub inside : (w : ℕ) → from ≤ w → w < end → before w ≡ lasts s w

-- From a call's clause on the words outside a chunk alone: each image of the moment has one at entry beside it.
pub at_entry : (s : State) (m : ℕ → Cell) (from end lo hi : ℕ) (image : ℕ → ℕ) → KeepsOutside (cell_now s) from end m → MayLeaveIn m lo hi image → AtEntry s from end lo hi image
at_entry s m from end lo hi image kept may = record {
  before = patch from end (lasts s) image;
  may = was_image (cell_now s) m from end lo hi image kept may;
  outside = λ w out. patch_out from end (lasts s) image w out;
  inside = λ w low high. patch_in from end (lasts s) image w low high;
}

-- a log that stands may be read
pub stands_lies : (s : State) (log : LogState) → StandsIn s log → LiesIn s.frame log
stands_lies s log stands = record { own = stands.own; low = stands.low; high = stands.high }

-- from the first place on
all_after : (xs : List (ℕ × Entry)) → IsBetween 0 xs
all_after [] = tt
all_after (x ∷ xs) = (inl (omega arith), all_after xs)

pub may_start : (s : State) (log : LogState) (j : ℕ) → StandsIn s log → is_some (tail_of log.chunks j) ≡ true → IsReadable s log j 0
may_start s log j stands has = record {
  within = omega arith;
  spelled = λ telling. stands.spelled telling j (tail_in log j) (is_tail (tail_of log.chunks j) has);
  between = λ telling. all_after (entries_in s log j);
}
