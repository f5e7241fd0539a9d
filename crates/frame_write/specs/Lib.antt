pub mod Theorems
pub mod View
pub mod Writer
