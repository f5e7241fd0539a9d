pub mod Check
pub mod Checked
pub mod ProgramChecked
pub mod ProgramKeys
pub mod Tables
pub mod Refusals
