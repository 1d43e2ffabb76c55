pub mod Respelt
pub mod Written
