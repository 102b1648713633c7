pub mod BoardTrialLaws
pub mod ThreadTrialLaws
pub mod OtherLaws
pub mod LeadTrialLaws
pub mod TwoLeaderLaws
pub mod EightTrialLaws
