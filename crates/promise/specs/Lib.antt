-- Demand 3, what its proof takes for what, and that the contracts fix their results.
pub mod Promise
pub mod Parts
pub mod Fixed
