-- The contracts of private functions cite these definitions. No public contract does.
pub mod AddsLine
pub mod InLanes
pub mod Index
pub mod Named
pub mod ReadsFacts
pub mod ReadsMore
pub mod Shows
