-- Laws of pages by their place, of entries that stand in a page, of find's way down, of the clauses of the well-formed tree, of the
-- records in key order, of list, and of build's layout.
pub mod Regions
pub mod Turn
pub mod Descent
pub mod Tally
pub mod Between
pub mod Rootless
pub mod Sound
pub mod Chain
pub mod Onward
pub mod Listing
pub mod Into
pub mod Groups
pub mod Laid
