pub mod Faults
pub mod Placing
pub mod Reading
pub mod Settings
pub mod Naming
pub mod Within
