pub mod Fields
pub mod PlanReading
pub mod Threes
