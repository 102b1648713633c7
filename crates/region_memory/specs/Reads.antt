-- The words that a region with a history reads.
use Rattle.std.specs.Prelude.{◌≡◌, ℕ, ◌+◌, ◌-◌, ◌≤◌, ◌<◌, ◌&&◌, nat_le, nat_lt, true, List, length, slice_index, if◌then◌else◌}
use Rattle.std.proofs.Common.{refl, sym, ◌∙◌, ap, arith}
use Rattle.std.proofs.lemmas.Bool.{cond_both, cond-true, and_parts}
use Rattle.std.proofs.lemmas.Bool.Decides.{nat_tests}
use Rattle.std.proofs.lemmas.List.{take_all}
use Rattle.pm_region.specs.Cell.{Cell, certain}
use Rattle.pm_region.specs.State.{Frame, IsTelling, cell_now}
use Rattle.pm_region.specs.Words.{lasts}
use Rattle.region_memory.specs.Journals.{cell_after, journal_told, IsComplete}
use Rattle.region_memory.specs.Moves.{history_state, cell_of}
use Rattle.region_memory.specs.declared.history.History.{History}
use Rattle.region_memory.specs.declared.region_journal.Journal.{Journal}
use Rattle.region_memory.specs.declared.step.Step.{Step}

-- The word at an address: as it was stored last, and beyond the words what the steps make of it.
abbrev pub word_in : History → ℕ → ℕ
word_in h w = if nat_le h.first w && nat_lt w (h.first + length h.words.items)
    then slice_index h.words.items (w - h.first) else (cell_of h w).last

told_kept : (j : Journal) (t : ℕ) → journal_told j t ≡ true → t ≤ j.limit
told_kept j t is = let b = (and_parts (nat_le j.since t) (nat_le t j.limit) is).1 in grind
    (arith, nat_tests)

now_cell : (f : Frame) (n : ℕ) (h : History) (w : ℕ)
    → cell_now (history_state f n h) w ≡ cell_of h w
now_cell f n h w =
    let j = h.journal in
    ap (λ (l : List Step). cell_after l w (certain (slice_index h.start.items (w - h.first))))
    (take_all (j.base + (j.stamp - j.since)) j.steps.items (omega (arith, j.kept, j.ordered)))

-- where it tells, that is what a load gives
pub history_tells : (f : Frame) (n : ℕ) (h : History) (w : ℕ) → IsTelling (history_state f n h)
    → lasts (history_state f n h) w ≡ word_in h w
history_tells f n h w telling =
    ap (λ (c : Cell). c.last) (now_cell f n h w)
    ∙ cond_both (nat_le h.first w && nat_lt w (h.first + length h.words.items))
    (slice_index h.words.items (w - h.first)) (cell_of h w).last
    (λ x. (cell_of h w).last ≡ x) inside (λ no. refl)
  where
    complete : IsComplete h.journal
    complete = record {
      kept = told_kept h.journal h.journal.stamp telling.says;
      below = telling.below;
    }

    inside : (nat_le h.first w && nat_lt w (h.first + length h.words.items)) ≡ true
        → (cell_of h w).last ≡ slice_index h.words.items (w - h.first)
    inside there =
        let both = and_parts (nat_le h.first w) (nat_lt w (h.first + length h.words.items)) there in
        let a = both.0 in let b = both.1 in
        let low : h.first ≤ w = grind (arith, nat_tests) in
        let high : w < h.first + length h.words.items = grind (arith, nat_tests) in
        let lt : w - h.first < length h.words.items = omega (arith, low, high) in
        let at : h.first + (w - h.first) ≡ w = omega (arith, low) in
        sym (h.matches complete (w - h.first) lt ∙ ap
        (λ (x : ℕ). (cell_after h.journal.steps.items x
        (certain (slice_index h.start.items (w - h.first)))).last) at)

-- in the range it is the word itself
pub word_inside : (h : History) (w : ℕ) → h.first ≤ w → w < h.first + length h.words.items
    → word_in h w ≡ slice_index h.words.items (w - h.first)
word_inside h w low high = cond-true (nat_le h.first w && nat_lt w (h.first + length h.words.items))
    (slice_index h.words.items (w - h.first)) (cell_of h w).last (grind (arith, nat_tests))
