pub mod Layouts
pub mod Chunks
pub mod Checked
pub mod Setting
pub mod Superblock
pub use Rattle.pm_region.specs.Cell
pub use Rattle.pm_region.specs.State
pub use Rattle.pm_region.specs.Words
