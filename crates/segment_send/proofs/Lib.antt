pub mod DoneLaws
pub mod DueLaws
pub mod SendLaws
pub mod SentLaws
pub mod TelegramLaws
pub mod Slips
