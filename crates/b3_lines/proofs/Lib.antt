-- searches of a text that found nothing
pub mod Searches
-- names: which are marked, how they are escaped and taken back, and NUL and U+FFFD in them
pub mod Marks
pub mod Escapes
pub mod BadCharacters
-- a line as it is written: part by part, that it is text, and which bytes it does not hold
pub mod Written
pub mod Texts
pub mod LineBytes
-- a line as it is read: its digits and spaces, how its parts lie, the first refusal of it, and what it says where there
-- is none
pub mod DigitValues
pub mod DigitsAndSpaces
pub mod Layouts
pub mod Refusals
pub mod Outcomes
-- no line is both plain and tagged
pub mod OneForm
-- a line that was written reads back
pub mod ReadBack
-- what the answer of a call says where it is `Ok`
pub mod Results
-- the pieces of a text, and the ranges of its lines
pub mod Pieces
pub mod RangesFrom
-- a line that was written is one line
pub mod OneLine
