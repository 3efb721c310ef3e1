pub mod Lefts
pub mod Todos
