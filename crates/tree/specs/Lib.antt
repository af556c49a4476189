-- The tree in the pages: its form, its leaves in key order, what find and list answer, what build lays out.
pub mod Tree
pub mod Answer
pub mod Way
pub mod Walk
pub mod Reader
pub mod Layout
pub mod Pieces
