mod WorkerTrials
mod ReachedWords
mod GateTrials
mod EngineTrials
mod CountedWorkers
