pub mod CodeLaws
pub mod Outputs
