-- What the crates above use.
pub use Rattle.core_room.proofs.LengthLaws.{class_fits, class_for_long, class_in_layout, class_small, fit_of}
