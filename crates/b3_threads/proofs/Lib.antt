-- the first place of a list and those after it, for work that threads share
pub mod ThreadParts
