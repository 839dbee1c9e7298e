-- `Promises` has what each call gives; `Demand` what the accepted records dictate; `Run` a list of calls, one after another; `Later`
-- what further calls leave as it is.
pub mod Promises
pub mod Demand
pub mod Run
pub mod Later
