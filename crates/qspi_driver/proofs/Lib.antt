pub mod SectorLists
pub mod Promised
pub mod Driving
pub mod Saving
pub mod DriverLaws
pub mod Clearing
