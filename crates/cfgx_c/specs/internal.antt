-- The contracts of private functions cite these definitions. No public contract does.
pub mod Applying
pub mod Lexing
pub mod Refusals
