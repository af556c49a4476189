-- Saving and deleting: the pages that a put or a delete changes; a changed page as the code holds it; the way down to a key; what an open put or delete lacks.
pub mod Save
pub mod Draft
pub mod Route
pub mod Rest
