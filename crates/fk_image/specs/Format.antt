pub mod Spelling
pub mod Fields
pub mod Offsets
pub mod Reading
pub mod Spells
pub mod Versions
