pub mod Quiet
pub mod Finding
pub mod Live
pub mod Writing
pub mod Trailers
pub mod Stepping
pub mod Cards
pub mod Theorems
