pub mod InImage
pub mod InFormat
pub mod InPointers
pub mod InValid
