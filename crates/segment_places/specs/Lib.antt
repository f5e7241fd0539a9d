pub mod ProgramBecomes
