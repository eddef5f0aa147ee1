pub mod Texts
pub mod Listing
pub mod Entries
pub mod Grids
pub mod Values
pub mod Table
pub mod Views
pub mod Failures
