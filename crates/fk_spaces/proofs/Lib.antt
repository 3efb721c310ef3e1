pub mod NextPages
pub mod PorterScans
