pub mod ProgramConcern
pub mod ProgramSeeking
