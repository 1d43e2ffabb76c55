-- What steps are, and which value they have.
pub mod Forests
pub mod Items
pub mod Numbers
pub mod StepStack
pub mod Stepping
