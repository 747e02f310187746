pub mod Log
pub mod Text
pub mod Reader
