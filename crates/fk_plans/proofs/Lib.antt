pub mod InPlans
pub mod InWakes
pub mod InEndings
