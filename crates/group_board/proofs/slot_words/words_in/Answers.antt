use Rattle.std.proofs.Common.{length, ap, arith}
use Rattle.log_entry.specs.Words.{words_for}
use Rattle.log_entry.proofs.Clients.{length-packed_in}
use Rattle.group_board.proofs.slot_words.words_in.Goals as goal

pub returns-in-Embedded : goal.returns-in-Embedded
returns-in-Embedded c =
    let value = c.in-Embedded.value in
    let size = length-packed_in (words_for (length value)) value in
    let same = ap length c.bytes.ensures in
    rw c.in-Embedded.is (omega (arith, size, same))
