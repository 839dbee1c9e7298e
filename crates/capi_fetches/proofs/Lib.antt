-- `Parts` has the recovery in the caller's memory by what its nine words say, and what is told of it.
pub mod Parts
