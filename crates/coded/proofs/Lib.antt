-- The label's figures of the code, from those of the model.
pub mod Coded
