pub mod InWhys
pub mod InMoved
pub mod InPicks
pub mod InNext
pub mod InSteps
