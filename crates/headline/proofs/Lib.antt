pub mod Lists
pub mod Run
pub mod Crash
pub mod Images
pub mod Steady
pub mod Counted
pub mod Clients
