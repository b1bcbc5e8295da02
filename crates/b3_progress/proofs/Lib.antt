-- a text without bytes takes no column
pub mod Widths
