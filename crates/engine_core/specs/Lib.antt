pub mod Answers
pub mod Calls
pub mod CoreSteps
pub mod Seated
pub mod Working
pub mod Reports
pub mod RunStarts
pub mod Endings
