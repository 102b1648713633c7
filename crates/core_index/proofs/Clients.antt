-- What the crates above use.
pub use Rattle.core_index.proofs.MarkLaws.{opened_at}
pub use Rattle.core_index.proofs.StandingLaws.{alone_none, alone_told, at_added, at_more, at_told, at_told_other, found_version}
