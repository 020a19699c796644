pub mod RowLines
pub mod PlanTexts
pub mod Putting
