-- Test 3 of a step.
pub mod Formed
