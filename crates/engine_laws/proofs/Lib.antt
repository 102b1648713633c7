pub mod Cores
pub mod CauseLaws
pub mod Others
pub mod Licences
pub mod Opens
pub mod Numbers
mod Histories
mod ReplyKinds
mod KeyMoves
pub mod Stands
pub mod Begins
mod Reports
pub mod Promises
pub mod WhyRefused
pub mod Ran
mod Workers
mod Advance
pub mod Sits
pub mod SpendingMoves
pub mod Calls
pub mod Ceasing
pub mod RoomSums
pub mod GroupLines
pub mod Ampleness
pub mod RoomMoves
pub mod RoomNeeds
pub mod RoomsKept
mod Drained
pub mod Kept
pub mod Beginning
pub mod KeyLaw
mod Trials
pub mod Clients
