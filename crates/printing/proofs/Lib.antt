pub mod Pieces
pub mod Lending
pub mod Shown
pub mod Whole
pub mod Cases
pub mod Jobs
