-- What both engines ask of plain numbers.
pub mod Checks
