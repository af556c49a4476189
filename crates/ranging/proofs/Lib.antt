-- Laws of a step's tests and of rows passed, and the way down to a key.
pub mod Tested
pub mod Passed
pub mod Descend
