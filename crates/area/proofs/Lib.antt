pub mod Found
pub mod Steps
pub mod Carrying
pub mod Passed
pub mod Arriving
