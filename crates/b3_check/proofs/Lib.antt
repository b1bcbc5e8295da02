-- What is written over a shelf that tells its contents, whatever fails.
pub mod RightLemmas
-- What is right and counts no failure: all names have their lines, all lines are verified.
pub mod VerifiedLemmas
-- What sums and checks of known files say: their reports, and that the lines of files read back.
pub mod LawLemmas
-- What is said after a run, by what was counted in it, as a run of its own.
pub mod Ends
-- The tasks of a sum.
pub mod SumTasks
