pub mod Accounts
pub mod Queues
pub mod Storing
