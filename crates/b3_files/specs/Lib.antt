pub mod Disks
pub mod Files
pub mod Sources
pub mod MemoryDisks
