use Rattle.std.proofs.Common.{ℕ, ◌∙◌, ap, slice_index}
use Rattle.std.specs.Option.{option_or}
use Rattle.store_image.specs.Parts.{part_entries}
use Rattle.store_image.specs.Soundness.{part_fault}
use Rattle.store_image.proofs.Clients.{first_next, first_end, list_next, list_end}
use Rattle.image_yardstick.proofs.gather_image.gather.Goals as goal

pub loop-part-preserved : goal.loop-part-preserved
loop-part-preserved c =
    let l = c.args.layout.now in
    let image : ℕ → ℕ = λ w. slice_index c.args.words.now w in
    record {
      fault = first_next (part_fault l image) c.loop-part.part l.cores c.loop-part.fault _ c.loop-part-test.true (c.or-fault.ensures ∙ ap (option_or c.loop-part.fault) c.in_ok-found.ensures.fault) ∙ c.loop-part.invariant.fault;
      entries = list_next (part_entries l image) c.loop-part.part l.cores c.loop-part.entries.items _ c.loop-part-test.true c.in_ok-found.ensures.entries ∙ c.loop-part.invariant.entries;
    }

pub returns-clause-fault : goal.returns-clause-fault
returns-clause-fault c =
    let l = c.args.layout.now in
    let image : ℕ → ℕ = λ w. slice_index c.args.words.now w in
    first_end (part_fault l image) c.loop-part.part l.cores c.loop-part.fault c.loop-part-test.false ∙ c.loop-part.invariant.fault

pub returns-clause-entries : goal.returns-clause-entries
returns-clause-entries c =
    let l = c.args.layout.now in
    list_end (part_entries l (λ w. slice_index c.args.words.now w)) c.loop-part.part l.cores c.loop-part.entries.items c.loop-part-test.false ∙ c.loop-part.invariant.entries
