pub mod Suites
pub mod States
pub mod Calls
pub mod Shown
pub mod Runs
pub mod Law
pub mod Live
