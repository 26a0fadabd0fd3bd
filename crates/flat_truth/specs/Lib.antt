pub mod Pairs
pub mod Flat
pub mod Missing
