pub mod Replies
pub mod Simulated
pub mod Running
pub mod Row
pub mod Instance
