pub mod Passes
pub mod Handing
