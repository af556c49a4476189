-- Laws of rows, of their order, of a page that is made, of the page changes, of 64 pages side by side, and of the places of leaves.
pub mod Rows
pub mod Order
pub mod Turns
pub mod Neighbours
pub mod Tests
pub mod Written
pub mod Made
pub mod Region
pub mod Places
pub mod Kept
pub mod Changes
pub mod Images
pub mod Pages
