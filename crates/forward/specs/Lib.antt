-- One step of an open unit, as the code makes it.
pub mod Appends
