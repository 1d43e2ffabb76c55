pub mod Builtins
pub mod SortedList
pub mod Table
pub mod TargetInfo
pub mod laws
