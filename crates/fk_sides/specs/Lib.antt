pub mod Sides
pub mod Nears
pub mod Blocks
pub mod Cames
pub mod Fars
pub mod Kept
