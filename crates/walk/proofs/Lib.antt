pub mod Taken
pub mod Rounds
pub mod Instances
