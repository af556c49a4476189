-- An open put or delete carried on: what it lacks, by the numbers of the walk, and the first record of that appended.
pub mod Lacking
pub mod Concluded
