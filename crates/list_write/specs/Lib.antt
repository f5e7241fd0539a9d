pub mod Record
pub mod ProgramRecord
pub mod View
