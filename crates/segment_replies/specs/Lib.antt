pub mod ProgramJoining
pub mod Replies
