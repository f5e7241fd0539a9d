pub mod Export
pub mod ProgramExport
pub mod Theorems
pub mod View
