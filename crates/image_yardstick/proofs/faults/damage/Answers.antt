use Rattle.std.proofs.Common.{ℕ, ◌∙◌, sym, ap, slice_index}
use Rattle.store_image.specs.Soundness.{clash_fault, block_fault}
use Rattle.store_image.proofs.Clients.{blocks_decide}
use Rattle.image_yardstick.proofs.faults.damage.Goals as goal

pub returns : goal.returns
returns c =
    let l = c.args.layout.now in
    let image : ℕ → ℕ = λ w. slice_index c.args.words.now w in
    let g = c.in_ok-gathered.gathered in
    blocks_decide l image g.entries.items c.in_ok-gathered.ensures.entries c.in_ok-fault.fault g.fault c.clash_fault-clash.result c.in_ok-gathered.ensures.fault (sym c.is_some.ensures ∙ c.if-is_some.false)
    (c.clash_fault-clash.ensures ∙ ap clash_fault c.deref.ensures.value) (sym c.is_some-2.ensures ∙ c.if-is_some-2.false) (c.in_ok-fault.ensures ∙ ap (block_fault l image) c.deref-2.ensures.value)
