-- `Rosters` has lists of serials taken as rosters, `Seconds` the second serials that places were given, `Orders` orders of a list's places.
pub mod Rosters
pub mod Seconds
pub mod Orders
