pub mod TelegramLaws
