pub mod Watching
pub mod Shown
