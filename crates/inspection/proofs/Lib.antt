pub mod Lettered
pub mod Told
