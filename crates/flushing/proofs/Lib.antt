-- Laws about each way through flush's tests.
pub mod Flushes
pub mod Ways
