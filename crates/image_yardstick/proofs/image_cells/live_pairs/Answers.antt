use Rattle.std.proofs.Common.{ℕ, ◌++◌, [], ◌∙◌, ap, slice_index, get_or}
use Rattle.store_image.specs.Winners.{recovered, keys_of}
use Rattle.store_image.specs.Listing.{with_pair}
use Rattle.store_image.proofs.Clients.{pair_added, pairs_listed}
use Rattle.image_yardstick.proofs.image_cells.live_pairs.Goals as goal

pub loop-key-preserved : goal.loop-key-preserved
loop-key-preserved c =
    let l = c.args.layout.now in
    let image : ℕ → ℕ = λ w. slice_index c.args.words.now w in
    let keys = c.deref-key-items.result.now in
    let here = get_or keys c.loop-key.key-index 0 in
    pair_added (recovered l image) keys c.loop-key.key-index c.loop-key.pairs.items c.loop-key-test.true _ (c.in_ok-push_pair.ensures ∙ ap (λ v. c.loop-key.pairs.items ++ with_pair here v []) c.in_ok-value.ensures) ∙ c.loop-key.invariant

pub returns : goal.returns
returns c =
    let l = c.args.layout.now in
    let image : ℕ → ℕ = λ w. slice_index c.args.words.now w in
    pairs_listed l image c.deref-key-items.result.now c.loop-key.key-index c.loop-key.pairs.items (c.deref-key-items.ensures.value ∙ c.in_ok-keys.ensures ∙ ap keys_of (c.deref.ensures.value ∙ c.in_ok-gathered.ensures.entries)) c.loop-key-test.false c.loop-key.invariant
