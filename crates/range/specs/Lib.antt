-- The records of a range reader's whole walk.
pub mod Walked
