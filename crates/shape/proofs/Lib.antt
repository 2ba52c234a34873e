pub mod Codes
pub mod Coded
pub mod Meeting
pub mod Formed
pub mod Items
pub mod Stored
