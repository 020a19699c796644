pub mod Doing
pub mod Seeing
pub mod Slips
pub mod Replaying
