pub mod ReciprocalLaws
pub mod ProductLaws
pub mod ValueLaws
pub mod Worked
pub mod NumberLaws
pub mod LeBytes
