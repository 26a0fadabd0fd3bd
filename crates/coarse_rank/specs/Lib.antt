-- Definitions of ranked coarse words.
pub mod Ranked
pub mod View
