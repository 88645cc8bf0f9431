-- The definitions that the program's contracts cite.
pub mod RopeEndings
pub mod RopeSessions
