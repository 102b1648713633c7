use Rattle.std.proofs.Common.{ℕ, ◌+◌, ◌≡◌, take, get_or, subst, sym, arith}
use Rattle.pm_region.specs.Cell.{Cell, HasValue}
use Rattle.region_memory.specs.Journals.{act}
use Rattle.region_memory.specs.declared.step.Step.{Step}
use Rattle.region_memory.proofs.Stepping.{acts_more, fence_twice, one_more_place, place_has}
use Rattle.region_memory.proofs.word_cells.take_fence.Goals as goal

pub act_at-requires-clause-within : goal.act_at-requires-clause-within
act_at-requires-clause-within c =
    let lt = c.requires.places.within (get_or c.args.open_places.now c.loop-k.k-index 0) (place_has c.args.open_places.now c.loop-k.k-index c.loop-k-test.true) in
    let count = c.loop-k.invariant.count in
    omega arith

pub loop-k-preserved : goal.loop-k-preserved
loop-k-preserved c =
    let places = c.args.open_places.now in
    let i = c.loop-k.k-index in
    acts_more c.args.step c.args.first (get_or places i 0) c.args.cells.now.items c.loop-k.cells.items c.act_at.new.cells.items
    (λ k. HasValue (take i places) k) (λ k. HasValue (take (i + 1) places) k)
    (subst (λ (s : Step). (w : ℕ) (x : Cell) → act s w (act s w x) ≡ act s w x) (sym c.requires.step.2) (fence_twice c.requires.step.0 c.requires.step.1))
    c.loop-k.invariant c.in_ok-act_at.ensures (λ j has. one_more_place places i j c.loop-k-test.true has)
