pub mod ProgramComes
pub mod Handled
pub mod ProgramSweep
