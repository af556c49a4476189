-- Laws about the test of the pages' numbers.
pub mod Newer
