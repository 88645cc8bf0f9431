pub mod Across
pub mod Dropped
pub mod Eaten
pub mod Fronts
pub mod Lined
pub mod Looked
pub mod Sameness
