-- That the rule computes just what the histories that fit say. `Exact`, `Accepts`, `Checks` and `Counts` are about the accepted
-- records of one moment, `Shown` about the two histories of an open place, `Kept` about the sets kept beside them, `Fewer` about two moments, `Earlier` about groups of one kind;
-- `Cases` is the table; `Closure` is for the others.
pub mod Closure
pub mod Exact
pub mod Shown
pub mod Accepts
pub mod Fewer
pub mod Kept
pub mod Checks
pub mod Earlier
pub mod Counts
pub mod Cases
