pub mod Changes
pub mod Walks
pub mod MadeSoFar
pub mod Aiming
pub mod validity
pub mod Nesting
pub mod Beginning
