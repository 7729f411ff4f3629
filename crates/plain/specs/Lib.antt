-- The plain engine, on states as the code holds them (document 02, W-212).
pub mod Layout
pub mod Bursts
pub mod Refusals
pub mod Runs
pub mod Again
