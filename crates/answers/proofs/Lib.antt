-- `Fetches` has what the number of fetches means, `Records` that an absent place has a record that is taken, `FetchCases` what is told in the cases
-- of `histories`. The rest are laws for each way in which the code returns.
pub mod Views
pub mod Walks
pub mod Answers
pub mod Groups
pub mod ShowCases
pub mod Laying
pub mod Lists
pub mod FetchCases
pub mod Gathering
pub mod Fetches
pub mod Records
pub mod Replies
