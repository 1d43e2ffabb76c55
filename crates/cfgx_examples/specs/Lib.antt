pub mod Board
pub mod Examples
pub mod Terms
