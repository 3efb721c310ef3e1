pub mod Reasons
pub mod Lines
pub mod Operands
pub mod Operations
pub mod Program
pub mod Labels
pub mod Assembler
pub mod Passes
