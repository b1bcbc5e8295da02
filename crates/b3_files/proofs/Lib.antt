-- Buffers that are filled read by read.
pub mod Filling
-- By cases: what stands under a name, whether all tell, and whether a file is still open.
pub mod Telling
