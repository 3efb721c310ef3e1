pub mod InClosing
pub mod InCuts
pub mod InShown
