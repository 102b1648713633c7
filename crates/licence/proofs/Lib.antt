pub mod Gained
pub mod LogEvents
pub mod Blocks
pub mod BlockEvents
pub mod Quiet
pub mod Elsewhere
pub mod Changes
pub mod Clients
