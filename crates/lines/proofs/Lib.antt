-- Decimal digits, and how long a line is.
pub mod Decimal
pub mod Lengths
pub mod Worked
