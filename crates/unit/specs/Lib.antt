-- Units: which one is chosen, what its next record is, what a record does to the pages, how much room it needs.
pub mod Choice
pub mod Next
pub mod Chosen
pub mod Room
pub mod Made
pub mod Again
