use Rattle.std.proofs.Common.{◌≡◌, ℕ, ◌<◌, ◌≤◌, List, length, get_or, sym, ◌∙◌, ap, subst, arith, slice_set, rules}
use Rattle.std.specs.List.{insert}
use Rattle.core_log.specs.declared.types.LogChunk.{LogChunk}
use Rattle.core_log.specs.Log.{with_tail, chunk_with}
use Rattle.core_log.specs.Places.{place_of}
use Rattle.core_log.proofs.TailLaws.{set_is, insert_is}
use Rattle.core_log.proofs.tails.set_tail.Goals as goal
use Rattle.core_log.proofs.tails.set_tail.Goals.{else-at-len-via-then-at-len+else-index-chunk, else-at-len-via-else-at-len}

pub returns-then-index-chunk-clause-items : goal.returns-then-index-chunk-clause-items
returns-then-index-chunk-clause-items c =
    let items = c.args.chunks.now.items in
    let d = c.index.result.now in
    let at_is : c.place_of-at.result ≡ place_of items c.args.chunk = c.place_of-at.ensures.place ∙ ap (λ (xs : List LogChunk). place_of xs c.args.chunk) c.deref.ensures.value in
    let lt : c.place_of-at.result < length items = search rules in
    let here : (get_or items (place_of items c.args.chunk) d).chunk ≡ c.args.chunk =
    ap (λ (n : ℕ). (get_or items n d).chunk) (sym at_is) ∙ sym (ap (λ (x : LogChunk). x.chunk) c.index.ensures) ∙ c.if-index-chunk.true in
    ap (λ (n : ℕ). slice_set items n (chunk_with c.args.chunk c.args.tail)) at_is ∙ sym (set_is items c.args.chunk c.args.tail d (subst (λ (n : ℕ). n < length items) at_is lt) here)

pub returns-else-at-len-clause-items : goal.returns-else-at-len-clause-items
returns-else-at-len-clause-items c =
    let items = c.args.chunks.now.items in
    let new = chunk_with c.args.chunk c.args.tail in
    let at_is : c.place_of-at.result ≡ place_of items c.args.chunk = c.place_of-at.ensures.place ∙ ap (λ (xs : List LogChunk). place_of xs c.args.chunk) c.deref.ensures.value in
    let put : c.insert.new.self.items ≡ insert items c.place_of-at.result new = search rules in
    let is : with_tail items c.args.chunk c.args.tail ≡ insert items (place_of items c.args.chunk) new = elim c.else-at-len.branch [
      | else-at-len-via-then-at-len+else-index-chunk w ↦ insert_is items c.args.chunk c.args.tail w.index.result.now
          (λ lt here. w.if-index-chunk.false (ap (λ (x : LogChunk). x.chunk) w.index.ensures ∙ ap (λ (n : ℕ). (get_or items n w.index.result.now).chunk) at_is ∙ here))
      | else-at-len-via-else-at-len w ↦ insert_is items c.args.chunk c.args.tail (chunk_with 0 0) (λ lt here. let past : length items ≤ c.place_of-at.result = search rules in omega (arith, lt, past, at_is))
    ] in
    put ∙ ap (λ (n : ℕ). insert items n new) at_is ∙ sym is
