pub mod InPositions
pub mod InOrders
pub mod InRestore
