-- chunks and their blocks
pub mod ChunkStates  -- an open chunk: more bytes, a block closed, its node
-- subtrees and the stack
pub mod ChunkCounts  -- numbers of chunks: their binary digits, and the runs of 2 ^ level chunks in them
pub mod Runs  -- the subtrees over runs of 2 ^ level chunks
pub mod Merging  -- the stack of chaining values, and how one more is merged into it
pub mod Roots  -- the root of the tree, from the stack and the last node
-- hashers and readers
pub mod Standing  -- a hasher and the bytes that it stands for
pub mod Reading  -- a read of the output stream, block by block
