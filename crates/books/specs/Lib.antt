pub mod Books
pub mod Stores
pub mod Volumes
pub mod Bounds
pub mod Keeping
