pub mod Scripts
pub mod Drives
