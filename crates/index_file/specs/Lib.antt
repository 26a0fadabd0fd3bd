-- Definitions of index files.
pub mod Spelling
pub mod Reading
pub mod Laws
pub mod Written
pub mod View
pub mod Parts
pub mod Stops
pub mod Ahead
pub mod Grouped
