-- What the crates above use.
pub use Rattle.core_log.proofs.Padded.{length-padded}
pub use Rattle.core_log.proofs.Append.{log_reads}
pub use Rattle.core_log.proofs.TailLaws.{tail_other, tail_set}
pub use Rattle.core_log.proofs.LogLaws.{kept_last, log_kept, own_chunk, own_open, tail_fits, words_kept}
pub use Rattle.core_log.proofs.BatchLaws.{entries_or_lacks, entries_read, head_of, holds_some, moved_chunk_of, open_chunk_of, open_has, open_spelled, opened_is, room_opens, some_opens}
pub use Rattle.core_log.proofs.WithoutLaws.{without_other, without_self}
pub use Rattle.core_log.proofs.RetireLaws.{is_tail}
pub use Rattle.core_log.proofs.ItemLaws.{HaveSpelling, drop_behind, first_is, items_have, items_of, items_placed, items_spelled, placed_items, spelled_by}
pub use Rattle.core_log.proofs.WalkLaws.{Spells, entry_fits, entry_words, fields_read, word_of, words_more}
pub use Rattle.core_log.proofs.EntryImages.{may_start}
pub use Rattle.core_log.proofs.Steps.{all_behind, may_begin, ordered}
pub use Rattle.core_log.proofs.ChunkWords.{free_has_none, free_reads_well, placed_all}
pub use Rattle.core_log.proofs.ChunkImages.{InChunk, InPart, chunk_reads_of, held_has, outside_chunk, part_has, part_of, part_reads_by}
pub use Rattle.core_log.proofs.LogWrites.{append_gains, appended_gains, chunk_is, chunk_now, entries_all, in_chunk_of, log_beside, open_gains, retire_loses}
