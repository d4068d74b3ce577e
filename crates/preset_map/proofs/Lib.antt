pub mod Agreement
pub mod Updates
pub mod Writes
