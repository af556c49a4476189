-- What every layer builds on: tests, and bytes in a list.
pub mod Test
pub mod Bytes
