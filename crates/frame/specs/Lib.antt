pub mod Frame
pub mod Master
pub mod Protocol
pub mod Theorems
pub mod View
