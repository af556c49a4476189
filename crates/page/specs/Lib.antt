-- The form of a page, what a log record does to one, 64 of them side by side, and where leaves stand.
pub mod Page
pub mod Each
pub mod Shape
pub mod Change
pub mod Results
pub mod Pages
pub mod Places
