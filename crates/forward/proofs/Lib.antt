-- Laws about one step of an open unit.
pub mod Stands
pub mod Appends
pub mod Grows
pub mod Carries
pub mod Saves
pub mod Finish
pub mod Next
