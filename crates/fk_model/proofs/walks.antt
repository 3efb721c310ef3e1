pub mod PlaceLaws
pub mod Members
pub mod Lowest
pub mod WalkLaws
pub mod Apart
