pub mod Following
pub mod Bounds
pub mod Sending
pub mod Commands
pub mod Shows
pub mod OfRuns
pub mod OfRows
pub mod ReadsRun
