pub mod InCopies
pub mod InBurst
