-- The first edition's state machine (document 02, W-213).
pub mod Levels
pub mod Loads
pub mod Moves
