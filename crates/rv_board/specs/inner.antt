pub mod Known
pub mod Rule
pub mod Seats
pub mod Steps
