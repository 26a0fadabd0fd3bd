pub mod InputLemmas
pub mod LongInputs
pub mod CheckLemmas
pub mod Reading
pub mod IndexLemmas
pub mod NumberLemmas
pub mod VectorLemmas
pub mod AllowLemmas
