pub mod Ascii
pub mod Refusal
pub mod Sweep
pub mod Words
