pub mod Lines
pub mod Shifts
pub mod Entries
pub mod Sheets
pub mod Memory
pub mod Values
pub mod Laws
pub mod Stair
