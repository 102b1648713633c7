pub mod BoardTrials
pub mod ThreadTrials
pub mod LeadTrials
pub mod EightTrials
pub mod NoRegions
