-- What the program's turns come to.
pub mod Program
