pub mod Steps
pub mod Runs
pub mod Names
pub mod Outcomes
