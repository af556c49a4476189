-- The theorem, from runs of records over one page up to every history, what it says of the single calls, and a small format.
pub mod Each
pub mod Runs
pub mod Page
pub mod Pages
pub mod Able
pub mod Uncut
pub mod Kept
pub mod Theorem
pub mod Toy
pub mod Small
