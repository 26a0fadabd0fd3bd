pub mod Starts
pub mod Bounded
pub mod Writes
pub mod Sums
pub mod Views
pub mod Codes
pub mod Quotients
pub mod Smalls
