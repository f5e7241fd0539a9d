pub mod IdentityLaws
pub mod Worked
