-- `Calls` has what each call on a recovery gives, by what its nine words say; `Opens` what opening leaves in the caller's memory,
-- `Offers` what offering does, and `Writes` what writing a returned record does.
pub mod Opens
pub mod Offers
