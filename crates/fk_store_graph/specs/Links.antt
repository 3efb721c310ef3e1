pub mod Nodes
pub mod Rings
pub mod Links
pub mod Lists
pub mod Walks
