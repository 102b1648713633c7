use Rattle.std.proofs.Common.{◌≡◌, drop, slice_index}
use Rattle.store_image.specs.Winners.{winner_in}
use Rattle.store_image.specs.Soundness.{first_some, winner_fault}
use Rattle.image_yardstick.proofs.entry_rules.block_fault.Given as goal

-- the keys so far break nothing
abbrev pub invariant-loop-key : goal.invariant-loop-key
invariant-loop-key l = first_some (λ k. winner_fault l.layout (λ w. slice_index l.words w) l.entries k (winner_in k l.entries)) l.key-items ≡ first_some (λ k. winner_fault l.layout (λ w. slice_index l.words w) l.entries k (winner_in k l.entries)) (drop l.key-index l.key-items)
