-- `Streams` has that 1,031 bytes are enough to read a record; `Windows` what filling the window again keeps, `Readings` what a
-- record that was read says of the bytes, `Gathered` that a line is laid whole, and that a place's
-- line says what asking would.
pub mod Windows
pub mod Gathered
pub mod Readings
pub mod Streams
