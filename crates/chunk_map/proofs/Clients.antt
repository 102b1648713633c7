-- What the crates above use.
pub use Rattle.chunk_map.proofs.LayoutLaws.{chunk_first_whole, chunk_in_part, chunk_words_whole, chunks_apart, numbers_of, part_below, part_within, parts_end, payload_of}
pub use Rattle.chunk_map.proofs.SuperLaws.{keeps_rules, on_ok}
pub use Rattle.chunk_map.proofs.HeadLaws.{data_read}
