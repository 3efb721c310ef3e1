pub mod InBooks
pub mod InWorkers
