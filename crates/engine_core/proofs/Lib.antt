mod Stepping
mod Working
mod FreeFound
mod Seating
pub mod Ranged
pub mod Kept
pub mod Opens
pub mod Reporting
pub mod Outcomes
pub mod Clients
