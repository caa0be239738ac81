pub mod Slips
pub mod Journals
pub mod Steps
pub mod Shows
