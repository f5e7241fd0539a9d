pub mod LetterLaws
pub mod LengthLaws
pub mod RestLaws
pub mod KeyLaws
