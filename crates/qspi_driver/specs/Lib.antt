pub mod State
pub mod Driver
pub mod Promise
pub mod Saved
pub mod Cleared
