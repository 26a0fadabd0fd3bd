pub mod Examples
pub mod FlatLemmas
pub mod Hits
pub mod Kept
pub mod Refusals
