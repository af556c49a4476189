-- Laws about a chosen unit, and about the answers.
pub mod Asked
pub mod Starts
pub mod Units
