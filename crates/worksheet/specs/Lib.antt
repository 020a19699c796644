pub mod Defects
pub mod Scores
pub mod Running
pub mod Promises
