-- The figures of docs/LABEL.md, of the code.
pub mod Coded
