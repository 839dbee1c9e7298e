-- `Histories` is the meaning and `Refusals` what 11 says, `Rule` what is computed, `Kept` the same with two sets kept at hand; `Cases` has
-- document 01's P1 to P12 and cases of both kinds; `Earlier` is the meaning and the rule for groups of one kind, as they were.
pub mod Histories
pub mod Rule
pub mod Kept
pub mod Refusals
pub mod Cases
pub mod Earlier
