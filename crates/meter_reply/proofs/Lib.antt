pub mod ReadoutLaws
pub mod ReplyLaws
