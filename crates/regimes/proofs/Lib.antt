pub mod Overrun
pub mod Tried
pub mod Table
pub mod Stretches
pub mod Samples
pub mod More
