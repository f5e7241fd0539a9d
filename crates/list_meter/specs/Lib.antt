pub mod Fresh
pub mod ProgramFresh
