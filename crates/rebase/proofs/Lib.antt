pub mod Carrying
pub mod Both
pub mod Doing
pub mod InRow
