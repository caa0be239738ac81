mod KeyWords
pub mod Laws
mod Turns
