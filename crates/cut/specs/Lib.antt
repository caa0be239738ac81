pub mod Losses
pub mod Cuts
