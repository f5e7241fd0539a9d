pub mod ProgramReply
pub mod Response
pub mod View
