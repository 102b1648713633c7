pub mod LayoutLaws
pub mod SuperLaws
pub mod HeadLaws
pub mod Clients
