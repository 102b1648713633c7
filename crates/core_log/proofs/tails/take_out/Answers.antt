use Rattle.std.proofs.Common.{◌≡◌, ◌≤◌, List, length, sym, ◌∙◌, ap, arith, rules}
use Rattle.std.specs.List.{remove}
use Rattle.core_log.specs.declared.types.LogChunk.{LogChunk}
use Rattle.core_log.specs.Places.{place_of}
use Rattle.core_log.proofs.WithoutLaws.{place_in, without_is}
use Rattle.core_log.proofs.tails.take_out.Goals as goal

pub returns-then-at-len-clause-items : goal.returns-then-at-len-clause-items
returns-then-at-len-clause-items c = λ some rising.
    let items = c.args.chunks.now.items in
    let at_is : c.place_of-at.result ≡ place_of items c.args.chunk = c.place_of-at.ensures.place ∙ ap (λ (xs : List LogChunk). place_of xs c.args.chunk) c.deref.ensures.value in
    c.remove.ensures.items ∙ ap (remove items) at_is ∙ sym (without_is items 0 c.args.chunk rising some)

pub returns-else-at-len-clause-items : goal.returns-else-at-len-clause-items
returns-else-at-len-clause-items c = λ some rising.
    let items = c.args.chunks.now.items in
    let at_is : c.place_of-at.result ≡ place_of items c.args.chunk = c.place_of-at.ensures.place ∙ ap (λ (xs : List LogChunk). place_of xs c.args.chunk) c.deref.ensures.value in
    let lt = place_in items c.args.chunk some in
    let past : length items ≤ c.place_of-at.result = search rules in
    absurd (omega (arith, lt, past, at_is))
