pub mod Passing
pub mod Prefix
pub mod Lengths
pub mod Answering
pub mod CellBound
pub mod Blocks
pub mod Changing
pub mod GoingOn
