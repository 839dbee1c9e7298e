-- `Words` has what all have in common, `Recoveries` a recovery in the caller's memory, `Records` stored records, `Days` a day, `Fetches` what to fetch.
pub mod Words
pub mod Recoveries
pub mod Records
pub mod Days
pub mod Fetches
