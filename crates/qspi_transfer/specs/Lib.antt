pub mod Wire
pub mod LowLevel
