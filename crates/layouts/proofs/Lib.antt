-- `Cases` has a record for each fault, computed, and stands first. `Sections` is the parser at a position of the bytes, `Judging` a roster's serials judged all at once, `Heads` and `Mournings`
-- the two parts of a record, `Readings` a whole one, `Sights` what the ticket desk is shown of it, `Lists` a roster in bytes beside a
-- list. `Follows` is a section with more bytes after it, `Desks` what is proved of the desk, `Faults` that the reader answers
-- just by the faults of document 01.
pub mod Cases
pub mod Fronts
pub mod Sections
pub mod Judging
pub mod Heads
pub mod Faults
pub mod Readings
pub mod Lists
pub mod Serials
pub mod Layouts
pub mod KindBytes
pub mod Follows
pub mod Trips
pub mod Desks
