-- What the crates above use.
pub use Rattle.group_board.proofs.Tidies.{tidied_is}
pub use Rattle.group_board.proofs.Picks.{here}
pub use Rattle.group_board.proofs.Journals.{names_begun, state_begun}
pub use Rattle.group_board.proofs.Keeping.{covers_less, covers_more}
pub use Rattle.group_board.proofs.Facts.{posted_by}
pub use Rattle.group_board.proofs.Opens.{opened_few, opened_kept, opened_lawful}
