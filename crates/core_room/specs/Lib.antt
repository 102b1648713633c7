pub mod Lengths
pub mod RoomRule
pub use Rattle.chunk_map.specs.Layouts
pub mod CleaningRoom
