pub mod Lanes
pub mod Columns
pub mod Left
pub mod View
pub mod Least
