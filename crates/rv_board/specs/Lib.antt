pub mod Codes
pub mod Deliveries
pub mod Known
pub mod Places
pub mod Rule
pub mod RunSeats
pub mod Seats
pub mod inner
