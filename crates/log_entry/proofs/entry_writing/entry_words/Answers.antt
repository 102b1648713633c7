use Rattle.std.proofs.Common.{ℕ, List, length, ap, arith}
use Rattle.log_entry.specs.Words.{words_for}
use Rattle.log_entry.proofs.Bytes.{length-packed_in}
use Rattle.log_entry.proofs.entry_writing.entry_words.Goals as goal

pub returns-in-Embedded-clause-words : goal.returns-in-Embedded-clause-words
returns-in-Embedded-clause-words c =
    let value = c.in-Embedded.value in
    let size = length-packed_in (words_for (length value)) value in
    let same = ap (λ (xs : List ℕ). words_for (length xs)) c.bytes.ensures in
    rw c.in-Embedded.is (omega (arith, size, same))
