pub mod Fields
pub mod ByBytes
pub mod Places
pub mod Tests
