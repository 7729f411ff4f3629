-- Laws of lists, loads and moves, for the proofs of this crate and of those above it; then worked examples.
pub mod Parts
pub mod Judged
pub mod Tidying
pub mod Noted
pub mod Bounds
pub mod Extremes
pub mod Worked
