pub mod InReading
pub mod InWriting
pub mod InCodec
pub mod InShow
