pub mod Send
pub mod ProgramSend
pub mod Steps
pub mod Theorems
pub mod View
