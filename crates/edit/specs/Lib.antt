pub mod Writes
pub mod Places
pub mod Changes
pub mod Values
pub mod Memory
pub mod States
pub mod Laws
pub mod Stair
