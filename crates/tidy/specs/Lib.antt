-- What it means that a unit is carried out, and that the tree is kept.
pub mod Tidy
