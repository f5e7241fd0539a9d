pub mod Cases
pub mod Due
pub mod More
pub mod RoundTrip
pub mod Theorems
pub mod Waiting
pub mod Worked
pub mod WorkedMaster
