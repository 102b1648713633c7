pub mod Waiting
pub mod Chains
pub mod Queue
pub use Rattle.fs_model.specs.Cells
