pub mod Meaning
pub mod Calls
pub mod Theorems
pub mod Buffers
pub mod Flatness
