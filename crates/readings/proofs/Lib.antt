-- `Sections` is the parser at a position of the bytes, `Judging` a roster's serials judged all at once, `Heads` and `Mournings`
-- the two parts of a record, `Readings` a whole one, `Sights` what the ticket desk is shown of it, `Lists` a roster in bytes beside a
-- list. `Follows` is a section with more bytes after it, `Desks` what is proved of the desk.
pub mod Mournings
