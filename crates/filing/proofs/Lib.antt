pub mod Alike
pub mod Names
pub mod Outcomes
pub mod EachStep
pub mod Runs
