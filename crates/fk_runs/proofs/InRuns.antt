pub mod Starting
pub mod Books
pub mod Made
pub mod Replayed
pub mod From
pub mod Transparencies
