pub mod InFields
pub mod InEntries
pub mod InSections
pub mod InScenario
