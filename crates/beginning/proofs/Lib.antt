-- Laws about each way through the calls' tests.
pub mod Begins
pub mod Units
