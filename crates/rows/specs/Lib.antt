-- The rows of document 01 that are to be proved, and puts and deletes of document 02 on their trees.
pub mod Rows
pub mod Saves
