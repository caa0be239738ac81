pub mod Texts
pub mod Runs
pub mod Words
pub mod Replies
pub mod Lines
pub mod Served
