-- What sinks gain, text after text.
pub mod Gains
-- Files in memory: which content a name has among them, and after a write.
pub mod Stored
-- Scripts one after the other, and the reports of their answers.
pub mod ScriptLemmas
-- Runs: of parts of a script, one after the other, and runs that stop.
pub mod RunLemmas
-- What is read of a file: so far, to its end, and of a name.
pub mod ReadLemmas
-- The operands that are left: of a list of names, piece by piece.
pub mod OperandLemmas
-- Runs over lists of check lines.
pub mod CheckLemmas
