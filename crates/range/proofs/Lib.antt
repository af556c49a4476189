-- Positions in a well-formed tree, and, last, that a range reader gives exactly list's records.
pub mod Rising
pub mod Bounds
pub mod Standing
pub mod Arrive
pub mod Few
pub mod Exact
