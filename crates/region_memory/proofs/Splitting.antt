-- What a split says of each piece.
use Rattle.std.proofs.Common.{◌≡◌, ℕ, ◌+◌, ◌-◌, ◌≤◌, ◌<◌, List, get_or, refl, sym, ◌∙◌, ap, arith}
use Rattle.pm_region.specs.Cell.{certain}
use Rattle.pm_region.specs.State.{Frame}
use Rattle.pm_region.specs.Split.{IsPiece, Parted}
use Rattle.region_memory.specs.Journals.{cell_after, GoesOnFrom, IsComplete}
use Rattle.region_memory.specs.Moves.{history_state, cell_of, IsPart}
use Rattle.region_memory.specs.Volumes.{part_frame, volume_state}
use Rattle.region_memory.specs.declared.history.History.{History}
use Rattle.region_memory.specs.declared.volume.Volume.{Volume}
use Rattle.region_memory.specs.declared.region_journal.Journal.{Journal}
use Rattle.region_memory.proofs.Now.{now_cell, telling_complete, complete_telling}

goes_on_complete : (old new : Journal) (from end : ℕ) → GoesOnFrom old from end new → IsComplete old → IsComplete new
goes_on_complete old new from end goes complete = record { kept = omega (arith, goes.stamp, goes.limit, complete.kept); below = omega (arith, goes.stamp, complete.below) }

was_complete : (old new : Journal) (from end : ℕ) → GoesOnFrom old from end new → IsComplete new → IsComplete old
was_complete old new from end goes complete = record { kept = omega (arith, goes.stamp, goes.limit, complete.kept); below = omega (arith, goes.stamp, complete.below) }

part_cell : (h part : History) (from end w : ℕ) → IsPart h from end part → h.first ≤ from → from ≤ w → w < end → cell_of part w ≡ cell_of h w
part_cell h part from end w is low ge lt =
    let first = is.first in
    let k : w - part.first < end - from = omega arith in
    let place : from - h.first + (w - part.first) ≡ w - h.first = omega arith in
    is.journal.steps w (certain (get_or part.start.items (w - part.first) 0)) ge lt
    ∙ ap (λ (v : ℕ). cell_after h.journal.steps.items w (certain v)) (is.start (w - part.first) k)
    ∙ ap (λ (x : ℕ). cell_after h.journal.steps.items w (certain (get_or h.start.items x 0))) place

pub is_piece : (f : Frame) (n : ℕ) (h part : History) (cuts : List ℕ) (i : ℕ) → f.since ≡ h.journal.since → h.first ≡ 0 → get_or cuts i 0 ≤ get_or cuts (i + 1) 0 → IsPart h (get_or cuts i 0) (get_or cuts (i + 1) 0) part
    → IsPiece (history_state f n h) cuts i (history_state (part_frame part) n part)
is_piece f n h part cuts i from at_zero rising is = record {
  between = record { first = is.first; end = let first = is.first in let long = is.length in omega arith };
  stamp = is.journal.stamp;
  since = is.journal.since;
  faults = refl;
  tells = λ telling. complete_telling (part_frame part) n part refl (goes_on_complete h.journal part.journal _ _ is.journal (telling_complete f n h telling));
  told = λ telling. complete_telling f n h from (was_complete h.journal part.journal _ _ is.journal (telling_complete (part_frame part) n part telling));
  cells = λ w within.
      let low = within.low in
      let high = within.high in
      let first = is.first in
      let long = is.length in
      now_cell (part_frame part) n part w ∙ part_cell h part (get_or cuts i 0) (get_or cuts (i + 1) 0) w is (omega arith) (omega arith) (omega arith) ∙ sym (now_cell f n h w);
}

-- whatever the counts
pub parted_on : (old new : Volume) (r n r' n' : ℕ) (cuts kept : List ℕ) → n' ≡ n → kept ≡ cuts → Parted (volume_state old r n) (volume_state new r n) kept → Parted (volume_state old r n) (volume_state new r' n') cuts
parted_on old new r n r' n' cuts kept count same is = record {
  words = is.words;
  bytes = is.bytes;
  parted = is.parted;
  cuts_are = is.cuts_are ∙ same;
  faults = count;
  stamp = is.stamp;
  since = is.since;
  told = is.told;
  cells = is.cells;
}
