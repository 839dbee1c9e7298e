-- `Finished` has what is said of a day that is over, `Cases` two small days and each refusal, computed. `Faults`, `Notes`, `Gives` and `Writes` have
-- a law for each way in which the code returns. The rest serves these.
pub mod Faults
pub mod Notes
