pub mod Blocks
pub mod Chunks
pub mod Made
pub mod Ways
