pub mod InReaders
pub mod InThreads
pub mod InRecords
pub mod InDeaths
