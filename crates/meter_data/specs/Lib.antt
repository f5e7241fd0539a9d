pub mod ProgramData
pub mod UserData
pub mod View
