pub mod TakenLaws
pub mod CollectLaws
pub mod Steps
pub mod SightLaws
pub mod WithdrawLaws
pub mod CutLaws
pub mod TrailLaws
pub mod Clients
