pub mod Plane
pub mod Spot
pub mod Value
pub mod Holds
pub mod Vec
pub mod Worked
pub mod Identities
pub mod Signs
