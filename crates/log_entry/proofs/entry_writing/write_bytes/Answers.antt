use Rattle.std.proofs.Common.{ℕ, ◌+◌, ◌-◌, ◌*◌, ◌++◌, ◌∷◌, [], List, length, drop, ap, ◌∙◌, arith, length-append}
use Rattle.log_entry.specs.Words.{packed_in}
use Rattle.log_entry.proofs.WordAt.{written_next}
use Rattle.log_entry.proofs.entry_writing.write_bytes.Goals as goal

pub loop-i-preserved : goal.loop-i-preserved
loop-i-preserved c =
    let i = c.loop-i.i in
    let xs = c.args.bytes.now in
    let ws = c.loop-i.buf.words in
    let n = c.words_for-count.result in
    let rest = packed_in (n - (i + 1)) (drop (8 * (i + 1)) xs) in
    let is = c.push.ensures.words ∙ ap (λ (w : ℕ). ws ++ w ∷ []) c.word_at.ensures in
    let long = ap length is ∙ length-append ws _ in
    record {
      words = ap (λ (l : List ℕ). l ++ rest) is ∙ written_next n i xs ws c.loop-i-test.true ∙ c.loop-i.invariant.words;
      size = omega arith;
      room = c.push.ensures.room ∙ c.loop-i.invariant.room;
      count = c.loop-i.invariant.count;
    }
