pub mod Filing
pub mod Lining
pub mod Making
pub mod Noting
pub mod Writing
mod Paging
mod Storing
mod Reading
