pub mod Powers
pub mod Looks
pub mod Loads
pub mod Kept
