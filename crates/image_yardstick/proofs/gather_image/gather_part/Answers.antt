use Rattle.std.proofs.Common.{ℕ, ◌∙◌, ap, slice_index}
use Rattle.std.specs.Option.{option_or}
use Rattle.std.specs.Prelude.{option_map}
use Rattle.store_image.specs.Parts.{chunk_entries}
use Rattle.store_image.specs.Soundness.{damaged, chunk_rule}
use Rattle.store_image.proofs.Clients.{first_next, first_end, list_next, list_end}
use Rattle.image_yardstick.proofs.gather_image.gather_part.Goals as goal

pub loop-chunk-preserved : goal.loop-chunk-preserved
loop-chunk-preserved c =
    let l = c.args.layout.now in
    let image : ℕ → ℕ = λ w. slice_index c.args.words.now w in
    record {
      fault = first_next (λ j. option_map (damaged c.args.part j) (chunk_rule l image c.args.part j)) c.loop-chunk.chunk l.chunks c.loop-chunk.fault _ c.loop-chunk-test.true (c.or-fault.ensures ∙ ap (option_or c.loop-chunk.fault) c.in_ok-found.ensures.fault) ∙ c.loop-chunk.invariant.fault;
      entries = list_next (chunk_entries l image c.args.part) c.loop-chunk.chunk l.chunks c.loop-chunk.entries.items _ c.loop-chunk-test.true c.in_ok-found.ensures.entries ∙ c.loop-chunk.invariant.entries;
    }

pub returns-clause-fault : goal.returns-clause-fault
returns-clause-fault c =
    let l = c.args.layout.now in
    let image : ℕ → ℕ = λ w. slice_index c.args.words.now w in
    first_end (λ j. option_map (damaged c.args.part j) (chunk_rule l image c.args.part j)) c.loop-chunk.chunk l.chunks c.loop-chunk.fault c.loop-chunk-test.false ∙ c.loop-chunk.invariant.fault

pub returns-clause-entries : goal.returns-clause-entries
returns-clause-entries c =
    let l = c.args.layout.now in
    list_end (chunk_entries l (λ w. slice_index c.args.words.now w) c.args.part) c.loop-chunk.chunk l.chunks c.loop-chunk.entries.items c.loop-chunk-test.false ∙ c.loop-chunk.invariant.entries
