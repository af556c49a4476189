-- The range reader's steps: where it starts, and what each step gives.
pub mod Reading
