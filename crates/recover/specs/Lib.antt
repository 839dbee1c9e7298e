pub mod Windows
pub mod Gathered
