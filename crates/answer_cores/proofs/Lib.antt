pub mod Together
pub mod Keeping
pub mod Clients
