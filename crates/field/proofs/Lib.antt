-- Laws that every crate cites: of tests, of parts and writes, of numbers in bytes, of zeros, of comparing, of being bytes.
pub mod Test
pub mod Part
pub mod Number
pub mod Zero
pub mod Gather
pub mod Same
pub mod Byte
