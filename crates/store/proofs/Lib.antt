-- Laws about the calls' definitions: refusals, and the tests that calls have in common.
pub mod Refusals
pub mod Chain
pub mod Passed
pub mod Replies
pub mod Ending
pub mod Anew
pub mod Chosen
