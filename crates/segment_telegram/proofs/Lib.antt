pub mod HandleLaws
pub mod RepliesLaws
pub mod Slips
pub mod SweepLaws
