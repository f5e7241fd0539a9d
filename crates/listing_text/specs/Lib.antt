pub mod Text
pub mod Listing
pub mod ProgramListing
pub mod ProgramPage
