-- `Spreading` has how eight bytes are made at once.
pub mod Spreading
