pub mod PartsBack
pub mod RecordBack
pub mod ListLength
pub mod ListBack
pub mod Agreeing
pub mod Theorems
pub mod Worked
