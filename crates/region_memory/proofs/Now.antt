-- What a history says now.
use Rattle.std.proofs.Common.{◌≡◌, ℕ, ◌+◌, ◌-◌, ◌<◌, ◌&&◌, not, Bool, true, false, List, length, get_or, if◌then◌else◌, sym, ◌∙◌, ap, arith}
use Rattle.std.proofs.lemmas.List.{take_all}
use Rattle.pm_region.specs.Cell.{Cell, certain, MayBe}
use Rattle.pm_region.specs.State.{Frame, IsTelling, InRange, cell_now}
use Rattle.region_memory.specs.Journals.{cell_after, IsComplete}
use Rattle.region_memory.specs.Moves.{history_state, cell_of}
use Rattle.region_memory.specs.Volumes.{frame_of, state_with}
use Rattle.region_memory.specs.declared.history.History.{History}
use Rattle.region_memory.specs.declared.step.Step.{Step}
use Rattle.pm_region.proofs.Clients.{may_be_last}
use Rattle.region_memory.proofs.Journals.{told_facts, told_from}

pub now_cell : (f : Frame) (n : ℕ) (h : History) (w : ℕ) → cell_now (history_state f n h) w ≡ cell_of h w
now_cell f n h w =
    let j = h.journal in
    ap (λ (l : List Step). cell_after l w (certain (get_or h.start.items (w - h.first) 0))) (take_all (j.base + (j.stamp - j.since)) j.steps.items (omega (arith, j.kept, j.ordered)))

pub telling_complete : (f : Frame) (n : ℕ) (h : History) → IsTelling (history_state f n h) → IsComplete h.journal
telling_complete f n h telling = let facts = told_facts h.journal h.journal.stamp telling.says in record { kept = facts.kept; below = telling.below }

pub complete_telling : (f : Frame) (n : ℕ) (h : History) → f.since ≡ h.journal.since → IsComplete h.journal → IsTelling (history_state f n h)
complete_telling f n h from complete =
    let j = h.journal in
    record { says = told_from j j.stamp (record { since = j.ordered; kept = complete.kept }); since = omega (arith, from, j.ordered); seen = omega arith; below = complete.below }

pub may_find : (h : History) (attached parted : Bool) (cuts : List ℕ) (bytes o a r n : ℕ) → h.first ≡ 0 → (w : ℕ) → IsTelling (state_with h attached parted cuts bytes o a r n) → InRange (frame_of h attached parted cuts bytes o a r) w
    → MayBe (cell_now (state_with h attached parted cuts bytes o a r n) w) (get_or h.words.items w 0)
may_find h attached parted cuts bytes o a r n at_zero w telling within =
    let f = frame_of h attached parted cuts bytes o a r in
    let lt : w < length h.words.items = inside (attached && not parted) (let high = within.high in omega arith) in
    let complete = telling_complete f n h telling in
    let at : h.first + w ≡ w = omega arith in
    let from : w - h.first ≡ w = omega arith in
    let last : get_or h.words.items w 0 ≡ (cell_of h w).last =
    h.matches complete w lt ∙ ap (λ (x : ℕ). (cell_after h.journal.steps.items x (certain (get_or h.start.items w 0))).last) at
    ∙ ap (λ (x : ℕ). (cell_after h.journal.steps.items w (certain (get_or h.start.items x 0))).last) (sym from) in
    may_be_last (cell_now (state_with h attached parted cuts bytes o a r n) w) (get_or h.words.items w 0) (last ∙ ap (λ (c : Cell). c.last) (sym (now_cell f n h w)))
  where
    inside : (b : Bool) → w < (if b then length h.words.items else 0) → w < length h.words.items
    inside true lt = lt
    inside false lt = absurd (omega arith)
