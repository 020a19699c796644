pub mod Rules
pub mod Portions
pub mod Lots
pub mod Rows
pub mod Promises
pub mod Cases
