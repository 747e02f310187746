pub mod Bits
pub mod Number
pub mod Qspi
pub mod Access
pub mod Slcr
