pub mod BaudLaws
pub mod Becoming
pub mod HeadLaws
pub mod LineLaws
pub mod PartLaws
pub mod PlaceLaws
pub mod QueueLaws
pub mod ReceiveLaws
