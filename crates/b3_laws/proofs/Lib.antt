-- Files that are there, before and after a list is put beside them, and what runs wrote of them.
pub mod There
-- The shape of the BLAKE3 tree over a few chunks.
pub mod TreeShape
