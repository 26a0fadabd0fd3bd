pub mod Pairs
pub mod Fullness
pub mod Standing
pub mod Adding
pub mod MaskLemmas
pub mod InBlock
pub mod Passing
pub mod Skipping
