pub mod SearchCall
pub mod Demanded
pub mod ProgramPacking
pub mod View
pub mod ProgramSearch
pub mod Site
