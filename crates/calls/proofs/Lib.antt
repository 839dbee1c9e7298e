-- `Demand` has demand 3 and the invariant, `Single` that one outcome is dictated, `Later` that what is decided stays so and that the order of
-- records leaves no trace, `Trips` what is read, written, shown and checked; `Acceptance` computes document 01's example, and
-- `Refuses` shows that nothing else is dictated there. `OneKind` compares groups of one kind with what they were told before, `Lists` the list of all places with asking for each. `Calls` has a law for each case of each call, `Dictated` what an outcome tells.
-- The rest serves these.
pub mod Acceptance
pub mod Opens
pub mod Keeps
pub mod Facts
pub mod Swaps
pub mod Calls
pub mod Demand
pub mod Dictated
pub mod Single
pub mod Later
pub mod Trips
pub mod Refuses
pub mod OneKind
pub mod Lists
pub mod Gives
pub mod Offers
pub mod Writes
