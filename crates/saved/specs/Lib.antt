-- What the pages that a put or a delete changes must be.
pub mod Saved
pub mod Units
