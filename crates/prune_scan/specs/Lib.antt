-- Definitions of the pruned scan.
pub mod Standing
pub mod LaneMasks
pub mod Blocks
pub mod Marks
pub mod Work
