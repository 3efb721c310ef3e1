pub mod Distinct
pub mod LinkLaws
pub mod NodeLaws
pub mod RingLaws
pub mod WalkLaws
