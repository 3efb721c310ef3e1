pub mod Forms
pub mod Images
pub mod Faults
pub mod Formed
