-- hashers and readers of BLAKE3 (2020), over the definitions of `b3_core`
pub use Rattle.b3_core.specs.Modes
pub use Rattle.b3_core.specs.Tree
pub use Rattle.b3_core.specs.Output
pub mod Derivation
pub mod Readers
pub mod Stacks
pub mod OpenChunks
pub mod ChunkHashers
pub mod Hashers
pub mod Laws
-- for private contracts, views and invariants alone
pub mod Private
