pub mod Ring
pub mod Kept
pub mod Laws
