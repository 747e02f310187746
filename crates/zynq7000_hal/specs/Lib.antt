pub mod Fifo
pub mod Clocks
pub mod Presets
pub mod Initialize
