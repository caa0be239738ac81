pub mod Tests
pub mod Linear
pub mod Inverses
pub mod Places
