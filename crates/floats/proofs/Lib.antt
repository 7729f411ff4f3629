-- The duty's limits, and worked examples.
pub mod Limits
pub mod Signs
pub mod Worked
