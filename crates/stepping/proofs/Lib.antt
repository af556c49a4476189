-- Laws about each way through the call.
pub mod Steps
