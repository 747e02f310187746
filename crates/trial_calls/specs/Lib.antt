pub mod Digests
pub mod Draws
pub mod Names
pub mod Replies
pub mod Sources
pub mod Starts
