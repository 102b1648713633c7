-- What the crates above use.
pub use Rattle.log_entry.proofs.Bytes.{AreBytes, AreWords, length-packed_in, length-unpacked, unpacked-packed}
pub use Rattle.log_entry.proofs.Spellings.{read_spelled}
pub use Rattle.log_entry.proofs.Scans.{batches_from, entries_from, length-batch, scan-append, scan_spelled, spells-append, whole_lines, with_entries}
pub use Rattle.log_entry.proofs.Images.{length-words, slice_words, words_append, words_list, words_loaded, words_same}
pub use Rattle.log_entry.proofs.Exact.{rules_kept}
pub use Rattle.log_entry.proofs.Whole.{spelled_whole, whole_spelled}
