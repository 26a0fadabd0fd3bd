pub mod IdLists
pub mod Whole
