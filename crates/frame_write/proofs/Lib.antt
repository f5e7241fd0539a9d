pub mod Theorems
pub mod WritingLaws
