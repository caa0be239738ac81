pub mod Stages
pub mod Trailers
pub mod Theorems
