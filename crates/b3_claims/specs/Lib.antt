pub mod Claiming
pub mod Seats
pub mod ClaimRule
