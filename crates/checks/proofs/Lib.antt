-- Laws of what both engines ask, for the proofs of this crate and of those above it; then what their calls have in common,
-- whatever way packets wait.
pub mod Counting
pub mod Closing
pub mod Walk
pub mod Groups
pub mod Judged
pub mod Sampling
pub mod Engine
pub mod Refusing
pub mod Entry
pub mod Offering
pub mod Polling
