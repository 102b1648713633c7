-- What the crates above use.
pub use Rattle.fs_model.proofs.Answered.{asked-append, changes-append, lawful-append, lawful-more}
