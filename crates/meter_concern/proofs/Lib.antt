pub mod ConcernLaws
pub mod SeekLaws
