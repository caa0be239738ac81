pub mod Aes
pub mod Words
pub mod Passes
pub mod Vector
pub mod Laws
pub mod Parts
pub mod Steps
