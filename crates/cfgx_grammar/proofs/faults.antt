-- The parser refuses a text with its first fault.
pub mod Levels
pub mod Steps
