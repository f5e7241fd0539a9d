pub mod Walk
pub mod Entries
pub mod Steady
