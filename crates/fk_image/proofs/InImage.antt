pub mod Rising
pub mod KindLaws
pub mod Marking
