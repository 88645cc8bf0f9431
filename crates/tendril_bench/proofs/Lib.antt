pub mod Commas
pub mod Doubles
pub mod Pushed
pub mod Resumed
pub mod UnitLengths
