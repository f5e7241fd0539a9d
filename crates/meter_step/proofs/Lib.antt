pub mod HearLaws
pub mod KeepLaws
pub mod Slips
pub mod Worked
