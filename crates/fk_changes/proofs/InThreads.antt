pub mod FinishLaws
pub mod CallCodes
pub mod SleeperLaws
pub mod ShiftLaws
pub mod Falling
pub mod Broadcasts
