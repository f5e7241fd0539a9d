pub mod Number
pub mod Values
