pub mod Lend
pub mod Clauses
pub mod Known
pub mod Branch
pub mod Part
