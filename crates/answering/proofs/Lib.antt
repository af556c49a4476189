-- Laws about each way through the call's tests.
pub mod Lists
