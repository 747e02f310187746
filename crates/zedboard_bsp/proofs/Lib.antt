pub mod DeviceIdLaws
pub mod FieldLaws
pub mod LimitLaws
pub mod RegisterLaws
pub mod WireBytes
