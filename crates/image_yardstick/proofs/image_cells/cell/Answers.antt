use Rattle.std.proofs.Common.{ℕ, ◌∙◌, sym, ap, slice_index}
use Rattle.std.specs.Option.{option_copied}
use Rattle.chunk_map.specs.Layouts.{owner}
use Rattle.store_image.specs.Parts.{value_in_block}
use Rattle.store_image.specs.Winners.{cell_by}
use Rattle.store_image.proofs.Clients.{cell_at}
use Rattle.image_yardstick.proofs.image_cells.cell.Goals as goal

pub returns-in_ok-value-in-Pointer : goal.returns-in_ok-value-in-Pointer
returns-in_ok-value-in-Pointer c =
    let l = c.args.layout.now in
    let image : ℕ → ℕ = λ w. slice_index c.args.words.now w in
    let wins = sym c.winner_in.ensures ∙ ap option_copied c.in-Some.is in
    let leaves = c.in_ok-value-in-Pointer.ensures ∙ ap (λ part. value_in_block l image part c.in-Pointer.pointer) c.owner.ensures.value ∙ ap (cell_by (value_in_block l image (owner l c.args.key))) (sym c.in-Pointer.is) in
    cell_at l image c.args.key c.args.entries.now c.in-Some.winner.now c.in_ok-value-in-Pointer.value c.requires.entries wins leaves
