pub mod Parts
pub mod Planarity
pub mod Order
pub mod Star
pub mod Convex
pub mod Enough
pub mod Moved
