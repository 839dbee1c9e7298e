-- `Layout` is document 01, "A stored record", as a parser and as bytes; `Records` what the contracts cite; `Parts` the steps of
-- the inner functions; `Desk` what the ticket desk may see; `Fronts` bytes laid into the front of a buffer.
pub mod Fronts
pub mod Layout
pub mod Records
pub mod Parts
pub mod Desk
pub mod Faults
pub mod FaultCases
