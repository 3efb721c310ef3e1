pub mod InHints
pub mod InLinks
pub mod InLeads
pub mod InLinked
pub mod InBodies
