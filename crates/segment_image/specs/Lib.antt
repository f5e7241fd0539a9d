pub mod MeterBytes
pub mod Answers
pub mod Image
