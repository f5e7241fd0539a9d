pub mod TextLaws
pub mod WorkedText
pub mod ListingLaws
pub mod Worked
