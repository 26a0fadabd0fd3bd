-- Definitions of queries by radius.
pub mod Radius
pub mod Parts
pub mod Found
pub mod Report
pub mod Going
pub mod Scanning
