-- What the crates above use.
pub use Rattle.log_standing.proofs.StandingLaws.{count_added, name_same, same_name}
pub use Rattle.log_standing.proofs.Filled.{again_named, has_push, new_named}
