-- `Executions` is what a day is, `Promises` what each call gives, `Parts` what the inner functions give; `Finished` is what is said of the records
-- of a day that is over, `Events` and `ByEvents` the same by the events alone.
pub mod Executions
pub mod Promises
pub mod Parts
pub mod Events
pub mod Finished
pub mod ByEvents
