pub mod Through
pub mod Starred
