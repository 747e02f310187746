pub mod AccessLaws
pub mod BitLaws
pub mod ByField
pub mod Words
