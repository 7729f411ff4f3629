-- A record of the call log, what it asks, and the record of a call (document 01, "The call log and its
-- program"; document 02, W-206).
pub mod Records
pub mod Buffers
pub mod Writing
