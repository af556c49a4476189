-- What contracts inside the crate say.
pub mod Begins
