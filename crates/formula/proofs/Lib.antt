pub mod Steps
pub mod Operands
pub mod Spelling
pub mod Writing
pub mod Rewritten
pub mod Contents
