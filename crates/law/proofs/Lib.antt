pub mod Sealing
pub mod Finds
pub mod Turns
pub mod Events
pub mod Laws
pub mod Lives
