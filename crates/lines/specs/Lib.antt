-- The line of an answer, and the last line (document 01, "The call log and its program").
pub mod Lines
