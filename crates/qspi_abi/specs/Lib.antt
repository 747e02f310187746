pub mod Codes
pub mod Numbers
pub mod Saved
pub mod Cleared
