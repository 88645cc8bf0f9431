pub mod ComplaintLemmas
pub mod EndingLemmas
pub mod HeldBackLemmas
pub mod SessionLemmas
pub mod WordLemmas
