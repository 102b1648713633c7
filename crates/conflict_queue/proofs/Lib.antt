pub mod ChainLaws
pub mod TableLaws
pub mod WriteLaws
pub mod AtPlace
pub mod QueueLaws
pub mod CoverLaws
