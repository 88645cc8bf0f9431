-- Lemmas that the laws of formats depend on. They are here since an `impl` may cite only `specs/` of its own crate.
pub mod Bytes
pub mod Characters
pub mod Cuts
pub mod Encodings
pub mod Units
pub mod Unpaired
