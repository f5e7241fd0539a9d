pub mod ProgramGather
pub mod Given
pub mod Opening
pub mod Theorems
