pub mod Packing
pub mod Stores
pub mod Walk
pub mod Zeros
