use Rattle.std.proofs.Common.{◌≡◌, ◌+◌, ◌-◌, ◌*◌, ◌++◌, length, drop}
use Rattle.log_entry.specs.Words.{words_for, packed, packed_in}
use Rattle.log_entry.proofs.entry_writing.write_bytes.Given as goal

-- the words so far, and those of the bytes that are left
abbrev pub invariant-loop-i : goal.invariant-loop-i
invariant-loop-i l = record {
  words : l.buf.words ++ packed_in (l.count - l.i) (drop (8 * l.i) l.bytes) ≡ l.fn.buf.words ++ packed l.bytes;
  size : length l.buf.words ≡ length l.fn.buf.words + l.i;
  room : l.buf.room ≡ l.fn.buf.room;
  count : l.count ≡ words_for (length l.bytes);
}
