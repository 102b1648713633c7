use Rattle.std.proofs.Common.{ℕ, ◌∙◌, sym, ap, slice_index}
use Rattle.store_image.specs.Winners.{winner_in}
use Rattle.store_image.specs.Soundness.{first_some, winner_fault}
use Rattle.store_image.proofs.Clients.{first_at}
use Rattle.image_yardstick.proofs.entry_rules.block_fault.Goals as goal

pub returns-in-Some : goal.returns-in-Some
returns-in-Some c =
    let l = c.args.layout.now in
    let es = c.args.entries.now in
    let image : ℕ → ℕ = λ w. slice_index c.args.words.now w in
    let keys = c.deref-key-items.result.now in
    let found = first_at (λ k. winner_fault l image es k (winner_in k es)) keys c.loop-key.key-index c.in-Some.fault c.loop-key-test.true (sym c.winner_fault.ensures ∙ c.in-Some.is) in
    sym (ap (first_some (λ k. winner_fault l image es k (winner_in k es))) (sym (c.deref-key-items.ensures.value ∙ c.in_ok-keys.ensures)) ∙ c.loop-key.invariant ∙ found)
