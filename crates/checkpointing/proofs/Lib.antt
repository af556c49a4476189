-- Laws about each way through checkpoint's tests.
pub mod Replaces
pub mod Ways
