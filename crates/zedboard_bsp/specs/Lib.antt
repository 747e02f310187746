pub mod Limits
pub mod Spansion
pub mod Words
pub mod Registers
pub mod DeviceId
