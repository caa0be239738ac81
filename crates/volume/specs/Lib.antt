pub mod States
pub mod Looks
pub mod Permits
pub mod Answers
pub mod Steadiness
