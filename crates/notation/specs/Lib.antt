pub mod Notation
pub mod Numbers
pub mod Errors
pub mod Laws
