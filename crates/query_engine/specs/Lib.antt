pub mod Parts
pub mod Progress
pub mod Report
pub mod State
pub mod Scanning
pub mod Pruning
