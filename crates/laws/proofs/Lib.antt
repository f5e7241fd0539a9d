pub mod Copying
pub mod Lists
pub mod Rows
pub mod Sweep
