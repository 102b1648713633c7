pub mod Ranges
pub mod Keys
pub mod LiveKeys
pub mod Starts
pub mod Pages
