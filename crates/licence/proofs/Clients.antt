-- What the crates above use.
pub use Rattle.licence.proofs.Gained.{gained_kept, log_each, part_each, to_place}
pub use Rattle.licence.proofs.LogEvents.{append_outside, batch_committed, batch_licensed, forgotten, open_licensed, open_outside}
pub use Rattle.licence.proofs.Blocks.{Start, apart, numbers_of}
pub use Rattle.licence.proofs.BlockEvents.{block_chunk, block_gained, block_licensed, block_outside, start_at}
pub use Rattle.licence.proofs.Quiet.{allowed, flown}
