pub mod Books
pub mod Workers
