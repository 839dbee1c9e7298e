-- The laws that belong to no one function. A crate above cites `Booleans`, `Tests`, `Counting`, `Laws` and `Members`; `Digits` and `Words` are for this one.
pub mod Booleans
pub mod Tests
pub mod Counting
pub mod Digits
pub mod Words
pub mod Laws
pub mod Members
