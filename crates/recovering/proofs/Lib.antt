-- Laws about each way through the call.
pub mod Finishing
pub mod Recovers
