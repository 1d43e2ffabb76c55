-- How the lexer finds the next token: by classes and runs of bytes. Internal: no public contract
-- names these definitions.
pub mod Beginnings
pub mod ByteClasses
