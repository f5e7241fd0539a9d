pub mod HighLaws
pub mod RecordsLaws
pub mod ListLaws
pub mod Theorems
