pub mod ProgramBits
pub mod ProgramMarks
pub mod ProgramPacked
