use Rattle.std.proofs.Common.{◌≡◌, ◌++◌, drop, slice_index}
use Rattle.store_image.specs.Winners.{recovered}
use Rattle.store_image.proofs.Clients.{pairs_of}
use Rattle.image_yardstick.proofs.image_cells.live_pairs.Given as goal

-- the pairs of the keys so far, and those of the rest
abbrev pub invariant-loop-key : goal.invariant-loop-key
invariant-loop-key l = l.pairs.items ++ pairs_of (recovered l.layout (λ w. slice_index l.words w)) (drop l.key-index l.key-items) ≡ pairs_of (recovered l.layout (λ w. slice_index l.words w)) l.key-items
