-- Small facts of the definitions.
pub mod Facts
