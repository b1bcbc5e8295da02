pub mod Usages
pub mod Tasks
pub mod Said
pub mod Stops
pub mod Lists
