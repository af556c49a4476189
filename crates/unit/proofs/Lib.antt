-- Laws about units: where their steps change pages, what a record makes of all pages, page by page, and what it leaves of those that it
-- changes; how the leaves are walked in key order, and the choice of an order unit and of a compact unit; what remains of a unit; the entry
-- that an LM takes; what the code makes of one record, and of a whole log repeated; that pages in form stay in form.
pub mod Places
pub mod Pagewise
pub mod Ended
pub mod Changed
pub mod Walk
pub mod Strays
pub mod Ordered
pub mod Groups
pub mod Chooses
pub mod Roots
pub mod Rooms
pub mod Entries
pub mod Applied
pub mod Repeats
pub mod Kept
pub mod Redone
pub mod Rerun
