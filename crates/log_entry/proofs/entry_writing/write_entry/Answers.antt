use Rattle.std.proofs.Common.{ℕ, ◌∷◌, [], List, length, ap, ◌∙◌, arith, length-append}
use Rattle.log_entry.specs.Words.{words_for}
use Rattle.log_entry.proofs.Bytes.{length-packed_in}
use Rattle.log_entry.proofs.Answers.{no_prefix}
use Rattle.log_entry.proofs.entry_writing.write_entry.Goals as goal

pub write_bytes-requires-clause-room : goal.write_bytes-requires-clause-room
write_bytes-requires-clause-room c =
    let value = c.in-Embedded.value in
    let size = length-packed_in (words_for (length value)) value in
    let room = rw c.in-Embedded.is at c.requires.room in
    let same = ap (λ (xs : List ℕ). words_for (length xs)) c.bytes-in-Embedded.ensures in
    let one = ap length c.push-in-Embedded.ensures.words ∙ length-append c.args.buf.now.words (c.first_word-in-Embedded.result ∷ []) in
    let two = ap length c.push-in-Embedded-2.ensures.words ∙ length-append c.push-in-Embedded.new.self.words (c.args.entry.now.key ∷ []) in
    omega (arith, c.push-in-Embedded.ensures.room, c.push-in-Embedded-2.ensures.room)

pub returns-in-Pointer-clause-whole : goal.returns-in-Pointer-clause-whole
returns-in-Pointer-clause-whole c = no_prefix c.args.entry.now c.requires.spelling

pub returns-in-Embedded-clause-whole : goal.returns-in-Embedded-clause-whole
returns-in-Embedded-clause-whole c = no_prefix c.args.entry.now c.requires.spelling

pub returns-in-Tombstone-clause-whole : goal.returns-in-Tombstone-clause-whole
returns-in-Tombstone-clause-whole c = no_prefix c.args.entry.now c.requires.spelling
