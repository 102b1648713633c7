pub mod LengthLaws
pub mod Clients
