pub mod JoinLaws
pub mod JoiningLaws
pub mod OverlayLaws
