pub mod InActs
pub mod InCalls
