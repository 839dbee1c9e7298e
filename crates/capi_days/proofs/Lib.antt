-- `Opens` has what opening a day leaves in the caller's memory, `Days` what an event does, and `Plays` what a list of them does.
pub mod Opens
pub mod Days
pub mod Plays
