pub mod Plans
pub mod Fresh
pub mod Finding
