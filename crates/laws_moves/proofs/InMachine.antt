pub mod Frame
pub mod Records
pub mod safety
pub mod validity
