pub mod Laying
pub mod Passes
pub mod Whole
