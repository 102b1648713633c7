pub mod KeyLaws
pub mod RangeLaws
pub mod PairLaws
pub mod NameLaws
pub mod StartLaws
