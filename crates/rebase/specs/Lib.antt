pub mod Carried
pub mod Rebased
pub mod Promise
