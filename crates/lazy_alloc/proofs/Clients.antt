-- What the crates above use.
pub use Rattle.lazy_alloc.proofs.ClassLaws.{fits_class}
pub use Rattle.lazy_alloc.proofs.CountLaws.{count_none}
pub use Rattle.lazy_alloc.proofs.CutLaws.{class_fits, class_point}
pub use Rattle.lazy_alloc.proofs.PlaceLaws.{placed_class, placed_in}
pub use Rattle.lazy_alloc.proofs.SetLaws.{SamePart, blocks_same, chunks_same, class_same, free_block, lies_at, same_part, some_of}
pub use Rattle.lazy_alloc.proofs.WriteLaws.{lie}
