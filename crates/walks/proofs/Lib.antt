-- Walks by hand: from a walk to a contract, the places of locals, and the parameters that a call hands on.
pub mod Meeting
pub mod Places
pub mod Beside
