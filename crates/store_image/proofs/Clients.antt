-- What the crates above use.
pub use Rattle.store_image.proofs.Local.{chosen, chunk_same, data_entries, free_entries, head_same, part_same, reads_same, tail_within}
pub use Rattle.store_image.proofs.SoundLaws.{has_layout, in_numbers, own_blocks, same_bodies, winner_key}
pub use Rattle.store_image.proofs.SoundFacts.{in_back, in_either, in_front, no_clash_after, none_tells, number_in, sound_store, store_sound, winner_is}
pub use Rattle.store_image.proofs.Copies.{winner_max, winner_some}
pub use Rattle.store_image.proofs.Places.{Numbers, behind_facts, chunk_ends, chunk_number, chunk_within, class_room, in_region, layout_numbers, start_facts, superblock_facts, two_positive}
pub use Rattle.store_image.proofs.BlockLaws.{LiesIn, block_lies, chunk_of, held_same}
pub use Rattle.store_image.proofs.Agree.{cells_agree, entries_agree, fault_agrees}
pub use Rattle.store_image.proofs.Loops.{blocks_decide, chunks_decide, clash_decides, first_at, first_end, first_next, judged, list_end, list_next, not_a_region}
pub use Rattle.store_image.proofs.Listings.{cell_at, lists_cells, lists_pairs, pair_added, pairs_listed, pairs_of, rising_keys}
pub use Rattle.store_image.proofs.ReadLaws.{log_read}
pub use Rattle.store_image.proofs.ScanReads.{places_lie}
