pub mod KeptThreads
pub mod ThreadScans
pub mod Lines
pub mod ThreadPaths
