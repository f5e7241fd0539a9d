pub mod MarkSweep
pub mod PackedPush
pub mod PackedSteps
