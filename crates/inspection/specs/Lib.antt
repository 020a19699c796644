pub mod Letters
pub mod Tallies
pub mod Notices
pub mod Statuses
pub mod Classes
