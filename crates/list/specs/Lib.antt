pub mod Layout
pub mod ProgramReading
pub mod Written
