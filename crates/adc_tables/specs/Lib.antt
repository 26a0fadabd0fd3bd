-- Definitions of full and small tables.
pub mod Full
pub mod Small
pub mod View
