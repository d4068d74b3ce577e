pub mod Walking
pub mod Handles
pub mod Starting
pub mod Theorems
