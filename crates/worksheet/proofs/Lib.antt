pub mod Written
pub mod Tallying
pub mod Going
pub mod Sheets
