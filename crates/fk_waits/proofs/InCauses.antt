pub mod Order
pub mod Numbers
pub mod Placed
pub mod Moved
pub mod Named
pub mod Shown
pub mod Steps
pub mod Near
