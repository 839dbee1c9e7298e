-- `Views` has the accepted records that a table of rows holds; each other file what one kind of question gets.
pub mod Views
pub mod Groups
pub mod Checks
pub mod Shows
pub mod Lists
pub mod Fetches
pub mod Replies
