pub mod CheckLaws
pub mod KeyLaws
pub mod VerdictLaws
