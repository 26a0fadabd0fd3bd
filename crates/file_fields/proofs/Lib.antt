pub mod Steps
pub mod Closure
pub mod Numbers
pub mod Many
mod Laws
