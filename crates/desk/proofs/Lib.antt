pub mod Calling
pub mod Demands
pub mod Idle
