-- A part of a history, and a history that takes parts back.
use Rattle.std.proofs.Common.{◌≡◌, ℕ, ◌+◌, ◌-◌, ◌≤◌, ◌<◌, List, length, get_or, drop, sym, ◌∙◌, ap, arith}
use Rattle.std.proofs.lemmas.List.{drop_all}
use Rattle.pm_region.specs.Cell.{Cell, certain}
use Rattle.region_memory.specs.Journals.{cell_after, IsComplete, GoesOnFrom}
use Rattle.region_memory.specs.declared.region_journal.Journal.{Journal}
use Rattle.region_memory.specs.declared.step.Step.{Step}
use Rattle.region_memory.specs.declared.history.History.{History}

pub part_matches : (h : History) (j : Journal) (from end : ℕ) (words start : List ℕ) → GoesOnFrom h.journal from end j → h.first ≤ from → end ≤ h.first + length h.words.items → length words ≡ end - from
    → ((k : ℕ) → k < end - from → get_or words k 0 ≡ get_or h.words.items (from - h.first + k) 0)
    → ((k : ℕ) → k < end - from → get_or start k 0 ≡ get_or h.start.items (from - h.first + k) 0)
    → IsComplete j → (k : ℕ) → k < length words → get_or words k 0 ≡ (cell_after j.steps.items (from + k) (certain (get_or start k 0))).last
part_matches h j from end words start goes low high long words_are start_are complete k lt =
    let kept = complete.kept in
    let below = complete.below in
    let same = goes.stamp in
    let limit = goes.limit in
    let was : IsComplete h.journal = record { kept = omega arith; below = omega arith } in
    let within : k < end - from = omega arith in
    let at : h.first + (from - h.first + k) ≡ from + k = omega arith in
    words_are k within ∙ h.matches was (from - h.first + k) (omega arith)
    ∙ ap (λ (w : ℕ). (cell_after h.journal.steps.items w (certain (get_or h.start.items (from - h.first + k) 0))).last) at
    ∙ ap (λ (v : ℕ). (cell_after h.journal.steps.items (from + k) (certain v)).last) (sym (start_are k within))
    ∙ ap (λ (c : Cell). c.last) (sym (goes.steps (from + k) (certain (get_or start k 0)) (omega arith) (omega arith)))

-- of a journal that begins where another stands nothing was written yet
pub nothing_yet : (j : Journal) (w : ℕ) (c : Cell) → j.base ≡ length j.steps.items → cell_after (drop j.base j.steps.items) w c ≡ c
nothing_yet j w c is = ap (λ (l : List Step). cell_after l w c) (drop_all j.base j.steps.items (omega arith))
