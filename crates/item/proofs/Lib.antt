pub mod Texts
pub mod Held
pub mod Standing
pub mod Judging
pub mod Shaping
pub mod Entering
