-- `Cases` has three small days and each refusal, computed, and stands first: a wrong definition of an event meets it before any law. `Events` has that what a day holds is
-- what happened in the events played, `Finished` what is said of a day that is over, `ByEvents` the same by the events. `Gives` has a law for each way in which the code returns. The rest serves these.
pub mod Cases
pub mod Executed
pub mod Days
pub mod Plays
pub mod Events
pub mod Finished
pub mod ByEvents
pub mod Gives
