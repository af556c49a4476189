-- The rows hold, and what puts and deletes leave of their trees, by computing.
pub mod Computed
pub mod RowsHold
pub mod SavesHold
