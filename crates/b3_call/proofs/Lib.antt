-- what words that are not refused say
pub mod Settled
-- what a task that is done writes, over a shelf that tells its contents
pub mod RightLemmas
-- the operands of files and of a list of names, and what is done while that is read
pub mod ListLemmas
