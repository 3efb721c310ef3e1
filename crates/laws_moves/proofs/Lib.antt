pub mod InRows
pub mod InMachine
pub mod InFrozen
pub mod InUsers
pub mod InWhole
pub mod InSavable
pub mod InPrompt
