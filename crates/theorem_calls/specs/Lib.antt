pub mod Call
pub mod Answer
pub mod Lent
pub mod Fit
pub mod Made
pub mod Read
pub mod Demand3
