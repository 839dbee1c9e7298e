-- `Fetched` has the theorems about fetches, `Plays` that the game played out lasts just as long as is told. `Numbers` has the records of a
-- place by their numbers, `Least` the least and the greatest of some numbers, `Handing` what handing over a record gives, `Turns` the two
-- turns of a game.
pub mod Numbers
pub mod Fetched
pub mod Least
pub mod Choices
pub mod Turns
pub mod Plays
