-- Build's layout: groups of rows, entries that lead to them, the 64 pages made of both, and that these are a well-formed tree.
pub mod Groups
pub mod Heads
pub mod Under
pub mod Sheet
pub mod Form
pub mod Laid
