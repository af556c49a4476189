-- Laws of the way down to a key, of a page drawn in three parts, of the shapes of a changed page, of plans, and of a put and a delete.
pub mod Found
pub mod Leads
pub mod Image
pub mod Shapes
pub mod Plans
pub mod Told
pub mod Halves
pub mod Puts
pub mod Deletes
pub mod Resumes
pub mod Replies
