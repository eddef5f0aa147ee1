pub mod Trails
pub mod Clipped
pub mod Operands
pub mod Reading
pub mod Places
pub mod Related
pub mod Knowledge
pub mod Looked
