-- What the proofs of the functions cite.
pub mod Checks
pub mod Closed
pub mod Walk
