-- Definitions of the residual scan.
pub mod Answer
pub mod Misses
pub mod Codes
pub mod State
pub mod Near
pub mod Caching
pub mod Report
pub mod CellAfterCell
pub mod Halving
pub mod Cutting
pub mod Cells
