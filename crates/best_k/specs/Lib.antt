-- Definitions of the best list.
pub mod Least
pub mod View
