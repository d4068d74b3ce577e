pub mod Expression
pub mod Normal
pub mod Machine
pub mod Corners
pub mod Statements
