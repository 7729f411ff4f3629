-- The update in f64: what is refused, and the operations in their order.
pub mod Doubles
pub mod Update
