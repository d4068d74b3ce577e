pub mod Filling
pub mod Updates
pub mod Agreeing
pub mod Settled
pub mod Records
pub mod MapLinks
pub mod MapReads
