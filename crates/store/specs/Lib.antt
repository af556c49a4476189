-- The public calls, each one definition from everything lent to everything left.
pub mod Calls
pub mod Knows
