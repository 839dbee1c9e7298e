-- `Fetched` says that the number told of fetches is enough, and that no smaller one is; `Games` is the game as it is played out.
pub mod Fetched
pub mod Games
pub mod Choices
