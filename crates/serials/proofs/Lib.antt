-- `Cases` computes document 02's example; `Laws`, `Pads` and `Seconds` are what a crate above cites; `Marks` is for `first_fault`.
pub mod Alias
pub mod Rosters
pub mod Pads
pub mod Seconds
pub mod Orders
