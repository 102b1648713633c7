pub mod WorkerTrials
pub mod EngineTrials
