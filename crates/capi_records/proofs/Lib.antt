-- `Readings` has what reading a record leaves in the caller's words, `Writes` what writing one from its parts does.
pub mod Readings
pub mod Writes
