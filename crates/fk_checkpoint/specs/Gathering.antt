pub mod Gathering
pub mod Todos
pub mod Gathered
