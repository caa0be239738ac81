pub mod Xts
pub mod Calls
pub mod Theorems
