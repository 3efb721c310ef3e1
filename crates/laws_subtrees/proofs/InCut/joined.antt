pub mod Rebinding
pub mod Stages
pub mod Inside
pub mod Every
pub mod Runs
