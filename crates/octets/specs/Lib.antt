pub mod Parts
pub mod DigitStrings
pub mod Handing
