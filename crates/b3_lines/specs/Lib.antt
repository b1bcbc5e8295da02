-- check lines, which are no part of the BLAKE3 standard: names, lines written and lines read
pub mod Names
pub mod Writing
pub mod Reading
pub mod Lines
pub mod Reasons
-- for private contracts alone
pub mod Parts
