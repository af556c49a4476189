-- The log: how each record is written, the table of record kinds, the steps of a unit, and how a log is read.
pub mod Record
pub mod Table
pub mod Write
pub mod Plan
pub mod Steps
pub mod Log
pub mod Valid
pub mod Stand
pub mod Scan
pub mod Source
pub mod Carries
