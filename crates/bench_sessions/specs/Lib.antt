pub mod Staying
pub mod Standing
