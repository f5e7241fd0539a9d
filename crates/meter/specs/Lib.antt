pub mod Kinds
pub mod Meter
pub mod PlainMeter
pub mod View
