pub mod Spelling
pub mod Pieces
pub mod Listing
pub mod Cases
