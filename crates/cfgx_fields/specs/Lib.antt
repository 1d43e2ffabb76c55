pub mod Endian
pub mod HasAtomic
pub mod Number
pub mod TextKey
pub mod laws
