pub mod Shows
pub mod Runs
pub mod Passes
pub mod Replayed
