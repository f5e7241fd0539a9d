pub mod FreshSound
pub mod OpeningSound
pub mod TelegramsKeep
pub mod CallsKeep
pub mod Left
