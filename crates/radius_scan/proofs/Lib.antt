pub mod Lanes
pub mod InBlock
pub mod Counting
pub mod Answering
pub mod Examples
