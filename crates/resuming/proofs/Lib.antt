-- Laws of what an open put or delete lacks: worked out, compared with the images logged, counted, and its first record appended.
pub mod Stages
pub mod Agrees
pub mod Finds
pub mod Carries
pub mod Walked
