-- `Cases` has a law for each case of showing, `Laws` one for each way in which the code returns.
pub mod Shows
