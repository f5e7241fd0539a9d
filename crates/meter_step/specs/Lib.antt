pub mod Hear
pub mod View
