pub mod Rings
pub mod Slots
pub mod Moves
pub mod Times
