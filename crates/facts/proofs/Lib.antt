-- The facts hold, by computing.
pub mod FactsHold
