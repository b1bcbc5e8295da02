-- Runs of which lines are still to be written.
pub mod OwingLemmas
-- Tasks: their scripts, runs of the tasks so far, and those of one.
pub mod TaskLemmas
-- Items that are taken, found and done.
pub mod CrewLemmas
