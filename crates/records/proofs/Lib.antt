-- Texts in buffers, what a record asks, and a record written and read back.
pub mod Buffers
pub mod Asking
pub mod Writing
pub mod Alike
pub mod Reading
pub mod Back
pub mod Worked
pub mod WorkedWriting
pub mod Stated
